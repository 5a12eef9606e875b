-- Placing the next node, the ends: at every port pushed is taken and standing, a line stands once, and every end stands as it should.
-- Rests on Taken, Pushing and Weighed.
use Prim.Native.Nat.{ℕ, ◌+◌, ◌≤◌, ◌<◌}
use native.Mathlib.Decide.{dec_lt}
use native.Mathlib.Omega.{arith}
use mathlib.Core.Path.{◌≡◌, sym, ap, ◌∙◌}
use mathlib.Core.Logic.{◌⊎◌, inl, inr}
use mathlib.Core.Bool.{Bool}
use mathlib.Core.List.{List, [], ◌∷◌, ◌++◌, map, Memᴰ}
use lib.ListN.{length, length-append, length-map}
use lib.Dec.{eqb}
use Rattle.lists.specs.Lists.{upto, times}
use Rattle.lists.proofs.Count.{count_map}
use Rattle.paper.specs.Map.{L, link_from, link_to, source_port, port_node, in_links, out_links}
use Rattle.paper.specs.Lines.{End, Frontier}
use Rattle.order_theory.specs.Sound.{Sound}
use Rattle.lists.specs.Weight.{weight}
use Rattle.lines_theory.specs.Lined.{on, targets, taking, old_lines, gain, fresh, level, newcomer, made, grown, Standing, Lined, Next}
use Rattle.lists.proofs.Weight.{weight-append}
use Rattle.lists.proofs.Members.{MemberFor, member_for, member-times}
use Rattle.lines_theory.proofs.Pushing.{push-times, push-there, made-ports, made-lines, made-position, Enough, enough}
use Rattle.lines_theory.proofs.Weighed.{in_weight, out-weight, out-member, owner-is}
use Rattle.lines_theory.proofs.Taken.{left_stood, ports-split, old_length, fresh-length, lines-known, lines-apart, lines-length, level-few}
use Rattle.lines_theory.proofs.Adjacent.{on-here, on_away}

module _ {b us : List ℕ} {f : Frontier} {v : ℕ} (s : Sound b) (i : Lined b us f) (n : Next b us v) where
  pub lines_enough : Enough (length (old_lines b v f)) (length (out_links b v)) (gain b v f)
  lines_enough = enough (length (old_lines b v f)) (length (out_links b v))

  pushed_at : map (λ e. e.port) (made (level b v f) (targets b v) (newcomer b v f).lines) ≡ targets b v
  pushed_at =
      made-ports (level b v f) (targets b v) (newcomer b v f).lines
      (omega (arith, length-map (out_links b v) (source_port b), lines_enough.each, lines-length s i n, old_length s i n, fresh-length s i n))

  -- ---- the ends

  pub balance-kept : (p : ℕ)
      → times p (map (λ e. e.port) (grown b v f).ends) + weight (λ k. eqb p (source_port b k)) (link_to b) (us ++ (v ∷ [])) (upto (L b))
      ≡ weight (λ k. eqb p (source_port b k)) (link_from b) (us ++ (v ∷ [])) (upto (L b))
  balance-kept p =
      let pushed = push-times (level b v f) (λ e. e.port) p (targets b v) (newcomer b v f).lines (taking b v f).ends in
      let out = count_map (eqb p) (source_port b) (out_links b v) ∙ out-weight s v at_port in
      let into = count_map (eqb p) (source_port b) (in_links b v) ∙ in_weight s v at_port in
      let from = weight-append at_port (link_from b) us (v ∷ []) (upto (L b)) in
      let to = weight-append at_port (link_to b) us (v ∷ []) (upto (L b)) in
      omega (arith, pushed, ap (times p) pushed_at, out, into, from, to, ports-split s i n p, i.balance p)
    where
      at_port : ℕ → Bool
      at_port k = eqb p (source_port b k)

  pub once-kept : (l : ℕ) → times l (map (λ e. e.line) (grown b v f).ends) ≤ 1
  once-kept l =
      let pushed = push-times (level b v f) (λ e. e.line) l (targets b v) (newcomer b v f).lines (taking b v f).ends in
      omega (arith, pushed, made-lines (level b v f) l (targets b v) (newcomer b v f).lines, lines-apart s i n l)

  -- an end that was left stands as before: the new node does not list its line
  left-stands : (e : End) → Memᴰ e (taking b v f).ends → Standing b (grown b v f) e
  left-stands e m =
      let st = left_stood s i n e m in
      record {
        low = omega (arith, st.low);
        shallow = omega (arith, st.shallow, length-append f.placed (newcomer b v f ∷ []));
        earlier = st.earlier;
        last = st.last;
        whole =
            on_away e.line f.placed (newcomer b v f)
            (omega (arith, lines-apart s i n e.line, member-times (λ (x : End). x.line) m))
            ∙ st.whole;
        owner = st.owner;
        height = st.height;
      }

  -- an end that was pushed ends with the new node
  pushed-stands : (e : End) → Memᴰ e (made (level b v f) (targets b v) (newcomer b v f).lines) → Standing b (grown b v f) e
  pushed-stands e m =
      record {
        low = low (dec_lt e.line (f.count + length (fresh b v f)));
        shallow = omega (arith, height, level-few s i n, length-append f.placed (newcomer b v f ∷ []));
        earlier = on e.line f.placed;
        last = newcomer b v f;
        whole = on-here e.line f.placed (newcomer b v f) listed;
        owner = owner (member_for (source_port b) e.port (out_links b v) at_target);
        height = sym height;
      }
    where
      height : e.position ≡ level b v f
      height = made-position (level b v f) (targets b v) (newcomer b v f).lines m

      at_target : 1 ≤ times e.port (targets b v)
      at_target = omega (arith, member-times (λ (x : End). x.port) m, ap (times e.port) pushed_at)

      listed : 1 ≤ times e.line (newcomer b v f).lines
      listed =
          omega
          (arith, member-times (λ (x : End). x.line) m, made-lines (level b v f) e.line (targets b v) (newcomer b v f).lines)

      low : Dec (e.line < f.count + length (fresh b v f)) → e.line < f.count + length (fresh b v f)
      low (yes h) = h
      low (no h) = absurd (omega (arith, listed, lines-known s i n e.line (omega arith)))

      owner : MemberFor (source_port b) e.port (out_links b v) → v ≡ port_node b e.port
      owner k =
          let link = out-member s v k.there in
          sym link.1 ∙ sym (owner-is s k.which link.0) ∙ ap (port_node b) (sym k.has)

  pub standing-kept : (e : End) → Memᴰ e (grown b v f).ends → Standing b (grown b v f) e
  standing-kept e m = go (push-there (level b v f) (targets b v) (newcomer b v f).lines (taking b v f).ends m)
    where
      go : Memᴰ e (made (level b v f) (targets b v) (newcomer b v f).lines) ⊎ Memᴰ e (taking b v f).ends → Standing b (grown b v f) e
      go (inl new) = pushed-stands e new
      go (inr left) = left-stands e left
