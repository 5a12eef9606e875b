-- The search for the step before, place by place among the links into a node: the smallest so far, below n.
-- Rests on neighbours' Targets and convexity_theory's Memberships and Extremes.
use Prim.Native.Nat.{ℕ, suc, ◌+◌, ◌-◌, ◌≤◌, ◌<◌, min}
use native.Mathlib.Numerals.{add-one}
use native.Mathlib.Omega.{arith}
use mathlib.Core.Path.{◌≡◌, refl, sym, ap, ◌∙◌}
use mathlib.Core.Bool.{Bool, true, false, cond}
use mathlib.Core.List.{List, [], ◌∷◌, ◌++◌, map, map-append, append-nil}
use Rattle.lists.specs.Lists.{In, from, any, keep, least}
use Rattle.lists.specs.Bounds.{Below}
use Rattle.lists.proofs.Upto.{from_snoc, keep_append}
use Rattle.lists.proofs.Members.{member_below, below_members}
use Rattle.paper.specs.Map.{N, L, link_from, in_links}
use Rattle.order_theory.specs.Sound.{Sound}
use Rattle.order_theory.proofs.Refusals.{sound}
use Rattle.order_theory.proofs.Links.{in_known}
use Rattle.convexity_theory.proofs.Extremes.{least-most}
use Rattle.convexity_theory.proofs.Memberships.{mem_in, in_keep, Some, any_some}
use Rattle.neighbours.specs.Linked.{in_start, in_source}
use Rattle.neighbours.proofs.Targets.{in_fits, in_rises, source_known, sources_are}
use Rattle.distances.specs.declared.queue.Queue.{Queue}
use Rattle.distances.specs.Met.{tells}
use Rattle.back_path.specs.Ways.{Sourced, in_neighbours, step_told}
use Rattle.back_path.specs.declared.writing.Back.{Back}

-- ---- the smallest of a list that grows, under a bound

least_snoc : (x : ℕ) (xs : List ℕ) (u : ℕ) → least (x ∷ (xs ++ (u ∷ []))) ≡ min (least (x ∷ xs)) u
least_snoc x [] u = refl
least_snoc x (y ∷ ys) u = omega (arith, least_snoc y ys u)

-- a bound that a member is below does not count
bound_out : (n x : ℕ) (xs : List ℕ) → In x xs → x < n → least (n ∷ xs) ≡ least xs
bound_out n x [] i h = absurd i
bound_out n x (y ∷ ys) i h = omega (arith, least-most x (y ∷ ys) i)

-- ---- the sources of a node

pub sources-known : {b : List ℕ} → Sound b → (v : ℕ) → Below (N b) (in_neighbours b v)
unfolding in_neighbours
sources-known {b} s v = below_members (link_from b) (N b) (in_links b v) (λ k m. s.source k (member_below (in_known b v) m))

-- a source of v that is marked with distance d
pub marked-source : {b : List ℕ} → Sound b → (a : List ℕ) (queue : Queue) (v d : ℕ) → any (λ u. tells a queue u d) (in_neighbours b v) ≡ true
    → (u : ℕ) × In u (keep (λ u. tells a queue u d) (in_neighbours b v)) × (u < N b)
marked-source {b} s a queue v d e = go (any_some (λ u. tells a queue u d) (in_neighbours b v) e)
  where
    go : Some (λ u. tells a queue u d) true (in_neighbours b v) → (u : ℕ) × In u (keep (λ u. tells a queue u d) (in_neighbours b v)) × (u < N b)
    go w = (
      w.which,
      in_keep (λ u. tells a queue u d) w.which (in_neighbours b v) w.says (mem_in (in_neighbours b v) w.there),
      member_below (sources-known s v) w.there,
    )

-- ---- the search

-- those that stand before place i and are marked with distance d
abbrev found_to : List ℕ → List ℕ → Queue → ℕ → ℕ → ℕ → List ℕ
found_to b a queue d v i = keep (λ u. tells a queue u d) (map (in_source b) (from (in_start b v) (i - in_start b v)))

-- before place i the smallest of the number of nodes and these
pub record Searching (b a : List ℕ) (queue : Queue) (d v i low : ℕ) : Type 0 where
  pub lowest : low ≡ least (queue.nodes ∷ found_to b a queue d v i)

module _ {b a : List ℕ} {back : Back} (st : Sourced b a back) {v : ℕ} (h : v < back.queue.nodes) {end : ℕ} (ends : end ≡ in_start b (v + 1)) where
  is-sound : Sound b
  is-sound = sound b st.linked.links

  known : v < N b
  known = omega (arith, st.linked.read.nodes)

  last : end ≡ in_start b (suc v)
  last = ends ∙ ap (in_start b) (add-one v)

  pub sources_rise : in_start b v ≤ end
  sources_rise = omega (arith, last, in_rises b v known)

  pub search_starts : {d i : ℕ} → i ≡ in_start b v → Searching b a back.queue d v i back.queue.nodes
  search_starts {d} {i} e =
      record { lowest = ap (λ (k : ℕ). least (back.queue.nodes ∷ keep (λ u. tells a back.queue u d) (map (in_source b) (from (in_start b v) k)))) (nought (in_start b v) i e) }
    where
      nought : (x y : ℕ) → y ≡ x → 0 ≡ y - x
      nought x y e = omega arith

  module _ {d i low : ℕ} (after : in_start b v ≤ i) (now : Searching b a back.queue d v i low) (more : i < end) where
    pub place-known : i < L b
    place-known = omega (arith, more, last, in_fits b (suc v) (omega (arith, known)))

    module _ {u : ℕ} (read : u ≡ in_source b i) where
      pub read_known : u < back.queue.nodes
      read_known = omega (arith, read, source_known is-sound i place-known, st.linked.read.nodes)

      one_more : found_to b a back.queue d v (i + 1) ≡ found_to b a back.queue d v i ++ cond (tells a back.queue u d) (u ∷ []) []
      one_more =
          ap (λ (k : ℕ). keep told (map (in_source b) (from (in_start b v) k))) (later (in_start b v) i after)
          ∙ ap (λ (xs : List ℕ). keep told (map (in_source b) xs)) (from_snoc (in_start b v) (i - in_start b v))
          ∙ ap (keep told) (map-append (in_source b) (from (in_start b v) (i - in_start b v)) ((in_start b v + (i - in_start b v)) ∷ []))
          ∙ keep_append told (map (in_source b) (from (in_start b v) (i - in_start b v))) (in_source b (in_start b v + (i - in_start b v)) ∷ [])
          ∙ ap (λ (w : ℕ). found_to b a back.queue d v i ++ cond (told w) (w ∷ []) []) (ap (in_source b) (again (in_start b v) i after) ∙ sym read)
        where
          told : ℕ → Bool
          told w = tells a back.queue w d

          later : (start i : ℕ) → start ≤ i → i + 1 - start ≡ suc (i - start)
          later start i h = omega arith

          again : (start i : ℕ) → start ≤ i → start + (i - start) ≡ i
          again start i h = omega arith

      searched : {next : ℕ} → next ≡ least (back.queue.nodes ∷ (found_to b a back.queue d v i ++ cond (tells a back.queue u d) (u ∷ []) [])) → Searching b a back.queue d v (i + 1) next
      searched e = record { lowest = e ∙ ap (λ (xs : List ℕ). least (back.queue.nodes ∷ xs)) (sym one_more) }

      module _ {test : Bool} (says : test ≡ tells a back.queue u d) where
        pub search_takes : test ≡ true → {next : ℕ} → next ≡ min low u → Searching b a back.queue d v (i + 1) next
        search_takes passes e =
            searched
            (e ∙ ap (λ (x : ℕ). min x u) now.lowest
            ∙ sym (least_snoc back.queue.nodes (found_to b a back.queue d v i) u)
            ∙ ap (λ (t : Bool). least (back.queue.nodes ∷ (found_to b a back.queue d v i ++ cond t (u ∷ []) []))) (sym passes ∙ says))

        pub search_passes : test ≡ false → {next : ℕ} → next ≡ low → Searching b a back.queue d v (i + 1) next
        search_passes fails e =
            searched
            (e ∙ now.lowest
            ∙ ap (λ (xs : List ℕ). least (back.queue.nodes ∷ xs)) (sym (append-nil (found_to b a back.queue d v i)))
            ∙ ap (λ (t : Bool). least (back.queue.nodes ∷ (found_to b a back.queue d v i ++ cond t (u ∷ []) []))) (sym fails ∙ says))

  pub search_ends : {d i low : ℕ} → Searching b a back.queue d v i low → i ≤ end → end ≤ i → any (λ u. tells a back.queue u d) (in_neighbours b v) ≡ true
      → low ≡ step_told b a back.queue d v
  unfolding step_told in_neighbours
  search_ends {d} {i} now before done some =
      let w = marked-source is-sound a back.queue v d some in
      now.lowest ∙ ap (λ (k : ℕ). least (back.queue.nodes ∷ found_to b a back.queue d v k)) done_so
      ∙ ap (λ (xs : List ℕ). least (back.queue.nodes ∷ keep (λ u. tells a back.queue u d) xs)) (sources_are is-sound v known)
      ∙ bound_out back.queue.nodes w.0 (keep (λ u. tells a back.queue u d) (in_neighbours b v)) w.1 (omega (arith, w.2, st.linked.read.nodes))
    where
      done_so : i ≡ in_start b (suc v)
      done_so = omega (arith, before, done, last)
