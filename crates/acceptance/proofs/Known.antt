-- What the tests of the start lists and of the entries say together.
-- Rests on paper.Accepted (what the test of a start list says) and lists.Tests.
use Prim.Native.Nat.{ℕ, ◌+◌, ◌<◌}
use mathlib.Core.Path.{◌≡◌, sym, subst}
use mathlib.Core.Bool.{Bool, true, false, not}
use mathlib.Core.List.{List}
use lib.Dec.{ltb}
use lib.ListN.{get_or}
use Rattle.lists.specs.Lists.{all, upto}
use Rattle.lists.proofs.Tests.{Says, says_no_lem, granted, denied, reworded, lt_says, every-says}
use Rattle.paper.specs.Accepted.{Starts, starts_well}
use Rattle.paper.proofs.Accepted.{starts_say}
use Rattle.tables.specs.declared.Layout.{Layout}
use Rattle.agreement.specs.Tables.{entry_count, node_start, line_start, Known}

-- an answer that is a test says what the test says
pub told : {t r : Bool} {A : Type 0} → Says t A → r ≡ t → Says r A
told {A = A} said e = subst (λ (x : Bool). Says x A) (sym e) said

pub starts-told : {r : Bool} (start : ℕ → ℕ) (n end : ℕ) → r ≡ starts_well start n end → Says r (Starts start n end)
starts-told start n end e = told (starts_say start n end) e

pub entries-told : {r : Bool} (a : List ℕ) (at count bound : ℕ) → r ≡ all (λ i. ltb (get_or a (at + i) 0) bound) (upto count)
    → Says r ((i : ℕ) → i < count → get_or a (at + i) 0 < bound)
entries-told a at count bound e = told (every-says (λ i. lt_says (get_or a (at + i) 0) bound) count) e

module _ (a : List ℕ) (at : Layout) (k : ℕ) {r₁ : Bool} (node-starts : Says r₁ (Starts (node_start a at) at.sizes.nodes (entry_count at k))) where
  pub node-starts_bad : not r₁ ≡ true → Says false (Known a at k)
  node-starts_bad e = says_no_lem (λ known. denied node-starts e known.node_starts)

  module _ (good₁ : not r₁ ≡ false) {r₂ : Bool} (line-starts : Says r₂ (Starts (line_start a at) k (entry_count at k))) where
    pub line-starts_bad : not r₂ ≡ true → Says false (Known a at k)
    line-starts_bad e = says_no_lem (λ known. denied line-starts e known.line_starts)

    module _ (good₂ : not r₂ ≡ false) {r₃ : Bool} (lines : Says r₃ ((i : ℕ) → i < entry_count at k → get_or a (at.lines + i) 0 < k)) where
      pub lines_bad : not r₃ ≡ true → Says false (Known a at k)
      lines_bad e = says_no_lem (λ known. denied lines e known.lines_known)

      pub all_known : not r₃ ≡ false → {r₄ : Bool} → Says r₄ ((i : ℕ) → i < entry_count at k → get_or a (at.along + i) 0 < at.sizes.nodes) → Says r₄ (Known a at k)
      all_known good₃ nodes =
          reworded
          (λ nodes-known. record {
            node_starts = granted node-starts good₁;
            line_starts = granted line-starts good₂;
            lines_known = granted lines good₃;
            nodes_known = nodes-known;
          })
          (λ known. known.nodes_known) nodes
