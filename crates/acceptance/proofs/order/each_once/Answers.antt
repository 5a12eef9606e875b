-- `acceptance::order::each_once` meets its contract: no stray word, and each at its kept place.
-- Rests on Places.
use Rattle.std.proofs.Common.{T, ap, arith, not, subst, sym}
use Rattle.lists.proofs.Tests.{says_no_lem, holds}
use Rattle.acceptance.proofs.Places.{unknown_not_once, places_known, all_at_places}
use Rattle.acceptance.proofs.order.each_once.Goals as goal

pub returns-then-not-keep_places : goal.returns-then-not-keep_places
returns-then-not-keep_places c = record { says = says_no_lem (unknown_not_once (c.keep_places.ensures.stray (subst T (sym (ap not c.if-not-keep_places.true)) tt))); kept_upto = λ t. absurd t }

pub at_places-requires : goal.at_places-requires
at_places-requires c = places_known (c.keep_places.ensures.kept (holds c.keep_places.result (ap not c.if-not-keep_places.false))) (omega (arith, c.requires.order_in_bounds, c.keep_places.auto.places))

pub returns : goal.returns
returns c = record { says = all_at_places (c.keep_places.ensures.kept (holds c.keep_places.result (ap not c.if-not-keep_places.false))) c.at_places.ensures; kept_upto = λ t. c.keep_places.ensures.kept (holds c.keep_places.result (ap not c.if-not-keep_places.false)) }
