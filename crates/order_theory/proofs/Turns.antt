-- The queue turn by turn and link by link: how one state comes from the one before, and that it only grows.
-- Rests on the definitions of the order (paper.Order).
use Prim.Native.Nat.{ℕ, suc, ◌≤◌, ◌<◌}
use mathlib.Core.Path.{◌≡◌, refl, sym, ap, ◌∙◌}
use mathlib.Core.Bool.{cond}
use mathlib.Core.List.{List, [], ◌∷◌, ◌++◌, flat_map, append-nil, append_assoc}
use lib.ListN.{length, get_or, take, drop, drop_of_length-le}
use lib.Seq.{take-suc, drop-cons, take-length}
use Rattle.paper.specs.Map.{link_to, out_links}
use Rattle.paper.specs.Order.{Queue, fills_last, follow, follow_all, turn, queue_after}
use Rattle.lists.specs.Bounds.{Extends}
use Rattle.order_theory.specs.Queued.{front_at, next_link, mid_turn}

-- ---- links in a row

pub follow_all_snoc : (b ks : List ℕ) (k : ℕ) (q : Queue) → follow_all b (ks ++ (k ∷ [])) q ≡ follow b k (follow_all b ks q)
unfolding follow_all
follow_all_snoc b [] k q = refl
follow_all_snoc b (j ∷ ks) k q = follow_all_snoc b ks k (follow b j q)

pub follow_all-followed : (b ks : List ℕ) (q : Queue) → (follow_all b ks q).followed ≡ q.followed ++ ks
unfolding follow_all follow
follow_all-followed b [] q = sym (append-nil q.followed)
follow_all-followed b (k ∷ ks) q = follow_all-followed b ks (follow b k q) ∙ append_assoc q.followed (k ∷ []) ks

-- nobody leaves the list of those who have joined
pub follow_all-joined : (b ks : List ℕ) (q : Queue) → Extends q.joined (follow_all b ks q).joined
unfolding follow_all follow
follow_all-joined b [] q = record { rest = []; whole = sym (append-nil q.joined) }
follow_all-joined b (k ∷ ks) q =
    let e = follow_all-joined b ks (follow b k q) in
    let joining = cond (fills_last b q.followed k) (link_to b k ∷ []) [] in
    record { rest = joining ++ e.rest; whole = e.whole ∙ append_assoc q.joined joining e.rest }

-- ---- one turn

-- a turn follows the links of its front
pub turn-front : (b : List ℕ) (t : ℕ) (q : Queue) → t < length q.joined → turn b t q ≡ follow_all b (out_links b (get_or q.joined t 0)) q
unfolding turn flat_map
turn-front b t q h =
    ap (λ (vs : List ℕ). follow_all b (flat_map (out_links b) (take 1 vs)) q) (drop-cons q.joined t 0 h)
    ∙ ap (λ (ks : List ℕ). follow_all b ks q) (append-nil (out_links b (get_or q.joined t 0)))

-- .. and does nothing where there is none
pub turn_over : (b : List ℕ) (t : ℕ) (q : Queue) → length q.joined ≤ t → turn b t q ≡ q
unfolding turn flat_map follow_all
turn_over b t q h =
    ap (λ (vs : List ℕ). follow_all b (flat_map (out_links b) (take 1 vs)) q) (drop_of_length-le q.joined {i = t} h)

-- ---- within a turn

module _ (b : List ℕ) (t : ℕ) where
  pub mid_start : mid_turn b t 0 ≡ queue_after b t
  unfolding mid_turn follow_all
  mid_start = refl

  pub mid_next : (j : ℕ) → j < length (out_links b (front_at b t))
      → mid_turn b t (suc j) ≡ follow b (next_link b t j) (mid_turn b t j)
  unfolding mid_turn
  mid_next j h =
      ap (λ (ks : List ℕ). follow_all b ks (queue_after b t)) (take-suc (out_links b (front_at b t)) j 0 h)
      ∙ follow_all_snoc b (take j (out_links b (front_at b t))) (next_link b t j) (queue_after b t)

  pub mid_end : t < length (queue_after b t).joined → mid_turn b t (length (out_links b (front_at b t))) ≡ queue_after b (suc t)
  unfolding mid_turn queue_after front_at
  mid_end h =
      ap (λ (ks : List ℕ). follow_all b ks (queue_after b t)) (take-length (out_links b (front_at b t)))
      ∙ sym (turn-front b t (queue_after b t) h)

  pub mid_followed : (j : ℕ) → (mid_turn b t j).followed ≡ (queue_after b t).followed ++ take j (out_links b (front_at b t))
  unfolding mid_turn
  mid_followed j = follow_all-followed b (take j (out_links b (front_at b t))) (queue_after b t)

  pub mid_joined : (j : ℕ) → Extends (queue_after b t).joined (mid_turn b t j).joined
  unfolding mid_turn
  mid_joined j = follow_all-joined b (take j (out_links b (front_at b t))) (queue_after b t)

  pub after-grows : Extends (queue_after b t).joined (queue_after b (suc t)).joined
  unfolding queue_after turn
  after-grows = follow_all-joined b (flat_map (out_links b) (take 1 (drop t (queue_after b t).joined))) (queue_after b t)

  -- once all who joined were taken, nothing changes
  pub after_over : length (queue_after b t).joined ≤ t → queue_after b (suc t) ≡ queue_after b t
  unfolding queue_after
  after_over h = turn_over b t (queue_after b t) h
