-- What the loops pass over: the links of a node, and the nodes of the queue between two places.
-- Rests on neighbours' Keeping and lists.Sections.
use Prim.Native.Nat.{ℕ, suc, ◌+◌, ◌-◌, ◌≤◌, ◌<◌}
use native.Mathlib.Nat.{sub_self}
use native.Mathlib.Omega.{arith}
use mathlib.Core.Path.{◌≡◌, sym, ap, ◌∙◌}
use mathlib.Core.List.{List, [], ◌∷◌, ◌++◌, flat_map, append-nil}
use lib.ListN.{length, get_or}
use Rattle.lists.proofs.Upto.{flat_map-append}
use Rattle.lists.proofs.Sections.{part, length_part, get_d_part, part-suc}
use Rattle.paper.specs.Map.{out_neighbours}
use Rattle.order_theory.specs.Sound.{Sound}
use Rattle.order_theory.proofs.Refusals.{sound}
use Rattle.neighbours.proofs.Keeping.{linked-kept}
use Rattle.tables.specs.Within.{Within}
use Rattle.walk_theory.proofs.Joined.{joined-known}
use Rattle.distances.specs.declared.Search.{Search}
use Rattle.distances.specs.declared.queue.Queue.{Queue}
use Rattle.distances.specs.Met.{Met, met_size}
use Rattle.distances.specs.Reached.{Standing, targets_in}

-- ---- the links of a node

module _ {b a : List ℕ} {at : Search} (st : Standing b a at) where
  -- they stand while nodes join
  pub standing-kept : {m : List ℕ} → Within at.start (met_size at.sizes.nodes) a m → Standing b m at
  standing-kept kept = record { linked = linked-kept st.linked kept st.apart; apart = st.apart }

  pub is-sound : Sound b
  is-sound = sound b st.linked.links

  pub room : at.start + met_size at.sizes.nodes ≤ length a
  room = omega (arith, st.apart, st.linked)

-- ---- the nodes of the queue

pub no_nodes : (b a : List ℕ) (start from : ℕ) → targets_in b a start from from ≡ []
unfolding targets_in flat_map
no_nodes b a start from = ap (λ (k : ℕ). flat_map (out_neighbours b) (part a (start + from) k)) (sub_self from)

pub nodes-next : (b a : List ℕ) (start from t : ℕ) {v : ℕ} → from ≤ t → start + t < length a → v ≡ get_or a (start + t) 0
    → targets_in b a start from (t + 1) ≡ targets_in b a start from t ++ out_neighbours b v
unfolding targets_in flat_map
nodes-next b a start from t {v} low inside read =
    let more : t + 1 - from ≡ suc (t - from) = omega arith in
    let last : start + from + (t - from) ≡ start + t = omega arith in
    ap (λ (k : ℕ). flat_map (out_neighbours b) (part a (start + from) k)) more
    ∙ ap (flat_map (out_neighbours b)) (part-suc a (start + from) (t - from) 0 (omega arith))
    ∙ flat_map-append (out_neighbours b) (part a (start + from) (t - from)) (get_or a (start + from + (t - from)) 0 ∷ [])
    ∙ ap (λ (xs : List ℕ). targets_in b a start from t ++ xs)
    (append-nil (out_neighbours b (get_or a (start + from + (t - from)) 0))
    ∙ ap (out_neighbours b) (ap (λ (k : ℕ). get_or a k 0) last ∙ sym read))

module _ {a : List ℕ} {queue : Queue} {joined : ℕ} (met : Met a queue joined) {t : ℕ} (taken : t < joined) where
  pub place_inside : queue.start + t < length a
  place_inside = omega (arith, met.few, met.fits)

  pub place-known : {v : ℕ} → v ≡ get_or a (queue.start + t) 0 → v < queue.nodes
  place-known read =
      omega (
        arith,
        read,
        get_d_part a queue.start joined t 0 taken,
        joined-known met.nodes t (omega (arith, length_part a queue.start joined (omega (arith, met.few, met.fits)))),
      )
