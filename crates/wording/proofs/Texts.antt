-- What the texts of answers rest on: a text put by another name, the reply of the order check, and how much room the texts take.
-- Rests on text's Printed.
use Prim.Native.Nat.{ℕ, ◌≤◌}
use native.Mathlib.Omega.{arith}
use mathlib.Core.Path.{◌≡◌, refl}
use mathlib.Core.List.{List, [], ◌∷◌, ◌++◌}
use lib.ListN.{length, length-append}
use Rattle.std.specs.Prelude.{Bool, true, false, Ok}
use Rattle.lists.specs.Ascii.{ascii}
use Rattle.paper.specs.Intervals.{Reply}
use Rattle.paper.specs.Refusals.{Answer, refused, answered}
use Rattle.paper.specs.Text.{newline, show_reply, show_refused, show_line, show_order}
use Rattle.text.specs.Printed.{Put, reply_of}
use Rattle.text.proofs.Printed.{refused_short, line-short, order-short}
use Rattle.answers.specs.Said.{topo_said}
use Rattle.wording.specs.Shown.{refused_line, both_checks}

-- a text put by another name
pub put_as : {l m us vs : List ℕ} {at e : ℕ} → us ≡ vs → Put l at vs m e → Put l at us m e
put_as q p = rw q p

-- all that is shown of the order check's answer is its reply
pub reply-shown : (reply : Bool) → show_order (topo_said (Ok reply)) ≡ show_reply (reply_of reply)
unfolding show_order
reply-shown true = refl
reply-shown false = refl

-- ---- how much room the texts take

pub refused_line-short : (n p : ℕ) → length (show_refused n p ++ (newline ∷ [])) ≤ 50
refused_line-short n p = omega (arith, refused_short n p, length-append (show_refused n p) (newline ∷ []))

pub refused_map-short : (x : Answer ℕ) → length (refused_line x) ≤ 50
unfolding refused_line
refused_map-short (refused n p) = refused_line-short n p
refused_map-short (answered k) = omega arith

pub both_short : (x : Answer (Reply × ℕ)) (y : Answer Reply) → length (both_checks x y) ≤ 110
unfolding both_checks
both_short x y =
    omega (
      arith,
      line-short x,
      order-short y,
      length-append (ascii "line " ++ show_line x ++ ascii " order ") (show_order y),
      length-append (ascii "line " ++ show_line x) (ascii " order "),
      length-append (ascii "line ") (show_line x),
    )
