-- The sorts and the comparison of the last two sentences: what each step asks is there, and what the answer says.
-- Rests on groups, Reading, Listing and lists.Sections.
use Prim.Native.Nat.{ℕ, suc, ◌+◌, ◌-◌, ◌≤◌, ◌<◌}
use native.Mathlib.Omega.{arith}
use mathlib.Core.Path.{◌≡◌, sym, ap, ap₂, ◌∙◌, subst}
use mathlib.Core.Bool.{Bool}
use mathlib.Core.List.{List}
use lib.ListN.{length, get_or, take, drop}
use lib.Seq.{sets, slice, length-sets, take-take, drop-drop}
use Rattle.lists.specs.Lists.{times}
use Rattle.lists.proofs.Sections.{part, length_part, get_d_part, part-sets_in}
use Rattle.lists.proofs.Upto.{length-table, get_or-table}
use Rattle.lists.proofs.Tests.{Says, reworded}
use Rattle.paper.specs.Map.{link_from, link_to}
use Rattle.groups.specs.Groups.{hits, Known, group, Cut, SameGroups, Matching, Grouping, GroupedBy}
use Rattle.groups.proofs.Picking.{part_slice}
use Rattle.tables.specs.declared.Layout.{Layout}
use Rattle.agreement.specs.Tables.{entry_count, node_start, lines_in}
use Rattle.agreement.specs.Lists.{line_numbers, ListsAgree, fronts, backs, sources, targets, LinksAgree, ListsRoom, LinksRoom}
use Rattle.accepted_theory.proofs.Starts.{start-most}
use Rattle.agreement.proofs.Listing.{numbers_long, numbers_known, fronts-long, fronts-known, backs-long, backs-known}

-- ---- what is lent from a room's front

none_off : (m : ℕ) → m - 0 ≡ m
none_off m = omega arith

just : (m d : ℕ) → m + d - m ≡ d
just m d = omega arith

-- what was put at a room's front
put_front : (room words : List ℕ) {m : ℕ} {after : List ℕ} → length words ≡ m → m ≤ length room → after ≡ sets room 0 words → take m after ≡ words
put_front room words {m} {after} long fits e =
    ap (take m) e ∙ ap (λ (d : ℕ). take d (sets room 0 words)) (sym long) ∙ part-sets_in room 0 words 0 (omega (arith, long))

-- the keys and values that were put are ready to be grouped
grouping : (room keys values₀ values : List ℕ) {m n : ℕ} {room' values' : List ℕ} → length keys ≡ m → m < 65536 → m + (n + 1) + m ≤ length room → Known n keys
    → room' ≡ sets room 0 keys → length values ≡ m → m ≤ length values₀ → values' ≡ sets values₀ 0 values
    → Grouping room' m n (take (m - 0) values')
grouping room keys values₀ values {m} {n} {room'} {values'} long few fits known e vlong vfits ve =
    record {
      fits = omega (arith, fits, ap length e ∙ length-sets room 0 keys);
      few = few;
      keys = subst (Known n) (sym (put_front room keys long (omega arith) e)) known;
      paired = ap (λ (d : ℕ). length (take d values')) (none_off m) ∙ ap length (put_front values₀ values vlong vfits ve) ∙ vlong;
    }

-- a grouping of what was put, as it is lent
grouped_lent : (room keys values₀ values room'' : List ℕ) {m n : ℕ} {room' values' : List ℕ} → length keys ≡ m → m ≤ length room → room' ≡ sets room 0 keys
    → length values ≡ m → m ≤ length values₀ → values' ≡ sets values₀ 0 values
    → GroupedBy (take m room') (take (m - 0) values') n (take m room'') (part room'' m (n + 1))
    → GroupedBy keys values n (take (m - 0) room'') (part room'' m (m + (n + 1) - m))
grouped_lent room keys values₀ values room'' {m} {n} {room'} {values'} long fits e vlong vfits ve g =
    record {
      cut =
          subst (λ (d : ℕ). Cut (take d room'') (part room'' m (m + (n + 1) - m)) n) (sym (none_off m))
          (subst (λ (d : ℕ). Cut (take m room'') (part room'' m d) n) (sym (just m (n + 1))) g.cut);
      known = λ width h. subst (λ (d : ℕ). Known width (take d room'')) (sym (none_off m)) (g.known width (subst (Known width) (sym values_are) h));
      has = λ v h w. ap₂ (λ (d c : ℕ). times w (group (take d room'') (part room'' m c) v)) (none_off m) (just m (n + 1)) ∙ g.has v h w
          ∙ ap₂ (hits v w) (put_front room keys long fits e) values_are;
    }
  where
    values_are : take (m - 0) values' ≡ values
    values_are = ap (λ (d : ℕ). take d values') (none_off m) ∙ put_front values₀ values vlong vfits ve

-- ---- a part of a part

part_of_part : (a : List ℕ) (o m f t : ℕ) → f ≤ t → t ≤ m → slice f t (part a o m) ≡ slice (o + f) (o + t) a
part_of_part a o m f t low high =
    ap (drop f) (take-take t m (drop o a) high)
    ∙ sym (part_slice (drop o a) f t low)
    ∙ ap (take (t - f)) (drop-drop f o a)
    ∙ ap (λ (d : ℕ). take d (drop (o + f) a)) (sym (over o f t))
    ∙ part_slice a (o + f) (o + t) (omega arith)
  where
    over : (o f t : ℕ) → o + t - (o + f) ≡ t - f
    over o f t = omega arith

-- ---- the lists

module _ {a : List ℕ} {at : Layout} {k : ℕ} {lines room counters : List ℕ} (ready : ListsRoom a at k lines room counters) where
  abbrev nodes : ℕ
  nodes = at.sizes.nodes

  abbrev entries : ℕ
  entries = entry_count at k

  few-entries : entries ≤ 4608
  few-entries = omega (arith, ready.tables.sized.few-lines, ready.tables.sized.few-links, ready.tables.sized.few-nodes)

  entries_fit : (o : ℕ) → o + entries ≤ length a → length (part a o (o + entries - o)) ≡ entries
  entries_fit o h = length_part a o (o + entries - o) (omega arith) ∙ just o entries

  keys : List ℕ
  keys = part a at.along (at.along + entries - at.along)

  keys_are : keys ≡ part a at.along entries
  unfolding keys
  keys_are = ap (part a at.along) (just at.along entries)

  keys-long : length keys ≡ entries
  unfolding keys
  keys-long = entries_fit at.along ready.tables.sized.along-fit

  keys-known : Known nodes keys
  unfolding keys
  keys-known i h =
      omega (
        arith,
        get_d_part a at.along (at.along + entries - at.along) i 0 (omega (arith, keys-long)),
        ready.tables.known.nodes_known i (omega (arith, keys-long)),
      )

  -- the nodes' own lists
  abbrev own : List ℕ
  own = part a at.lines (at.lines + entries - at.lines)

  abbrev starts : List ℕ
  starts = part a at.begins (at.begins + (nodes + 1) - at.begins)

  start_is : (v : ℕ) → v ≤ nodes → get_or starts v 0 ≡ node_start a at v
  start_is v h = get_d_part a at.begins (at.begins + (nodes + 1) - at.begins) v 0 (omega arith)

  own-long : length own ≡ entries
  own-long = entries_fit at.lines ready.tables.sized.lines_fit

  start-high : (v : ℕ) → v ≤ nodes → node_start a at v ≤ entries
  start-high v h = omega (arith, start-most ready.tables.known.node_starts v h)

  own-cut : Cut own starts nodes
  own-cut =
      record {
        some = omega (arith, length_part a at.begins (at.begins + (nodes + 1) - at.begins) (omega (arith, ready.tables.sized.begins-fit)));
        rises = λ v h. omega (arith, start_is v (omega arith), start_is (suc v) h, ready.tables.known.node_starts.rises v h);
        inside = λ v h. omega (arith, start_is v h, start-high v h, own-long);
        few = omega (arith, own-long, few-entries);
      }

  own-known : Known (length counters) own
  own-known i h =
      omega (
        arith,
        get_d_part a at.lines (at.lines + entries - at.lines) i 0 (omega (arith, own-long)),
        ready.tables.known.lines_known i (omega (arith, own-long)),
        ready.counters-fit,
      )

  own-group : (v : ℕ) → v < nodes → group own starts v ≡ lines_in a at v
  own-group v h =
      ap₂ (λ (i j : ℕ). slice i j own) (start_is v (omega arith)) (start_is (suc v) h)
      ∙ ap (λ (d : ℕ). slice (node_start a at v) (node_start a at (suc v)) (part a at.lines d)) (just at.lines entries)
      ∙ part_of_part a at.lines entries (node_start a at v) (node_start a at (suc v)) (omega (arith, ready.tables.known.node_starts.rises v h)) (start-high (suc v) h)

  module _ {lines' room' : List ℕ} (numbered : lines' ≡ sets lines 0 (line_numbers a at k))
      (put : room' ≡ sets room 0 (part a at.along (at.along + entries - at.along))) where
    pub lists_grouping : Grouping room' entries nodes (take (entries - 0) lines')
    unfolding keys
    lists_grouping =
        grouping room keys lines (line_numbers a at k) keys-long (omega (arith, few-entries)) ready.room_fits keys-known put (numbers_long ready.tables)
        ready.lines_fit numbered

    module _ (room'' : List ℕ) (g : GroupedBy (take entries room') (take (entries - 0) lines') nodes (take entries room'') (part room'' entries (nodes + 1))) where
      lent : GroupedBy keys (line_numbers a at k) nodes (take (entries - 0) room'') (part room'' entries (entries + (nodes + 1) - entries))
      unfolding keys
      lent =
          grouped_lent room keys lines (line_numbers a at k) room'' keys-long (omega (arith, ready.room_fits)) put (numbers_long ready.tables) ready.lines_fit
          numbered g

      pub lists_matching : Matching own starts (take (entries - 0) room'') (part room'' entries (entries + (nodes + 1) - entries)) nodes counters
      lists_matching =
          record {
            left = own-cut;
            right = lent.cut;
            left-known = own-known;
            right-known = lent.known (length counters) (λ i h. omega (arith, numbers_known ready.tables i h, ready.counters-fit));
            zeros = ready.zeros;
          }

      pub lists-told : {r : Bool} → Says r (SameGroups own starts (take (entries - 0) room'') (part room'' entries (entries + (nodes + 1) - entries)) nodes)
          → Says r (ListsAgree a at k)
      lists-told said =
          reworded (λ same v h x. sym (ap (times x) (own-group v h)) ∙ same v h x ∙ right v h x) (λ agree v h x. ap (times x) (own-group v h) ∙ agree v h x ∙ sym (right v h x))
          said
        where
          right : (v : ℕ) → v < nodes → (x : ℕ) → times x (group (take (entries - 0) room'') (part room'' entries (entries + (nodes + 1) - entries)) v)
              ≡ hits v x (part a at.along entries) (line_numbers a at k)
          right v h x = lent.has v h x ∙ ap (λ (xs : List ℕ). hits v x xs (line_numbers a at k)) keys_are

-- ---- the links

module _ {b a : List ℕ} {at : Layout} {k : ℕ} {links ends pairs nexts counters : List ℕ} (ready : LinksRoom b a at k links ends pairs nexts counters) where
  abbrev count : ℕ
  count = at.sizes.links

  sources-known : Known at.sizes.nodes (sources b count)
  sources-known i h =
      let lt : i < count = omega (arith, length-table (link_from b) count) in
      omega (arith, get_or-table (link_from b) count i 0 lt, ready.linked.from i lt)

  targets-known : Known at.sizes.nodes (targets b count)
  targets-known i h =
      let lt : i < count = omega (arith, length-table (link_to b) count) in
      omega (arith, get_or-table (link_to b) count i 0 lt, ready.linked.to i lt)

  small : count < 65536
  small = omega (arith, ready.linked.few)

  module _ {links' ends' pairs' nexts' : List ℕ} (is-links : links' ≡ sets links 0 (sources b count)) (is-ends : ends' ≡ sets ends 0 (targets b count))
      (is-pairs : pairs' ≡ sets pairs 0 (fronts a at k)) (is-nexts : nexts' ≡ sets nexts 0 (backs a at k)) where
    pub links_grouping : Grouping links' count at.sizes.nodes (take (count - 0) ends')
    links_grouping =
        grouping links (sources b count) ends (targets b count) (length-table (link_from b) count) small ready.links-fit sources-known is-links (length-table (link_to b) count)
        ready.ends-fit is-ends

    pub pairs_grouping : Grouping pairs' count at.sizes.nodes (take (count - 0) nexts')
    pairs_grouping =
        grouping pairs (fronts a at k) nexts (backs a at k) (fronts-long ready.tables) small ready.pairs-fit (fronts-known ready.tables) is-pairs
        (backs-long ready.tables) ready.nexts_fit is-nexts

    module _ (links'' pairs'' : List ℕ) (g₁ : GroupedBy (take count links') (take (count - 0) ends') at.sizes.nodes (take count links'') (part links'' count (at.sizes.nodes + 1)))
        (g₂ : GroupedBy (take count pairs') (take (count - 0) nexts') at.sizes.nodes (take count pairs'') (part pairs'' count (at.sizes.nodes + 1))) where
      lent₁ : GroupedBy (sources b count) (targets b count) at.sizes.nodes (take (count - 0) links'') (part links'' count (count + (at.sizes.nodes + 1) - count))
      lent₁ =
          grouped_lent links (sources b count) ends (targets b count) links'' (length-table (link_from b) count) (omega (arith, ready.links-fit)) is-links (length-table (link_to b) count)
          ready.ends-fit is-ends g₁

      lent₂ : GroupedBy (fronts a at k) (backs a at k) at.sizes.nodes (take (count - 0) pairs'') (part pairs'' count (count + (at.sizes.nodes + 1) - count))
      lent₂ =
          grouped_lent pairs (fronts a at k) nexts (backs a at k) pairs'' (fronts-long ready.tables) (omega (arith, ready.pairs-fit)) is-pairs
          (backs-long ready.tables) ready.nexts_fit is-nexts g₂

      pub links_matching : Matching (take (count - 0) links'') (part links'' count (count + (at.sizes.nodes + 1) - count)) (take (count - 0) pairs'') (part pairs'' count (count + (at.sizes.nodes + 1) - count)) at.sizes.nodes counters
      links_matching =
          record {
            left = lent₁.cut;
            right = lent₂.cut;
            left-known = lent₁.known (length counters) (λ i h. omega (arith, targets-known i h, ready.counters-fit));
            right-known = lent₂.known (length counters) (λ i h. omega (arith, backs-known ready.tables i h, ready.counters-fit));
            zeros = ready.zeros;
          }

      pub links-told : {r : Bool}
          → Says r (SameGroups (take (count - 0) links'') (part links'' count (count + (at.sizes.nodes + 1) - count)) (take (count - 0) pairs'') (part pairs'' count (count + (at.sizes.nodes + 1) - count)) at.sizes.nodes)
          → Says r (LinksAgree b a at k)
      links-told said =
          reworded (λ same u h w. sym (lent₁.has u h w) ∙ same u h w ∙ lent₂.has u h w) (λ agree u h w. lent₁.has u h w ∙ agree u h w ∙ sym (lent₂.has u h w))
          said
