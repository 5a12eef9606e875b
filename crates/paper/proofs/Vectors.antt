-- Vectors of single definitions: an area word for word, rounding, the guess, the program's listing of 01, and one of `why`.
-- Rests on Cases for the maps.
use Prim.Native.Nat.{ℕ}
use mathlib.Core.Path.{◌≡◌, refl}
use mathlib.Core.List.{List, [], ◌∷◌, ◌++◌}
use lib.ListN.{replicate}
use Rattle.lists.specs.Ascii.{ascii}
use Rattle.paper.specs.Calls.{prepare}
use Rattle.paper.specs.Lookup.{rounded, product, guess}
use Rattle.paper.specs.Text.{ask, why}
use Rattle.paper.proofs.Everything.{everything}
use Rattle.paper.proofs.Recording.{map_bytes}
use Rattle.paper.proofs.Cases.{map_a, map_b}

bytes_a : List ℕ
unfolding map_a
bytes_a = map_bytes map_a.nodes map_a.links

bytes_b : List ℕ
unfolding map_b
bytes_b = map_bytes map_b.nodes map_b.links

-- what preparing writes for map A: K, order, positions, node starts, lines of nodes, line starts, nodes of lines, scratch;
-- a word past W stands
area_of_A : (prepare bytes_a (replicate 100 9)).area
    ≡ 2 ∷ 0 ∷ 1 ∷ 2 ∷ 3 ∷ 0 ∷ 1 ∷ 1 ∷ 2 ∷ 0 ∷ 2 ∷ 3 ∷ 4 ∷ 6
    ∷ 0 ∷ 1 ∷ 0 ∷ 1 ∷ 0 ∷ 1 ∷ 0 ∷ 0 ∷ 0 ∷ 0 ∷ 0 ∷ 0
    ∷ 0 ∷ 3 ∷ 6 ∷ 0 ∷ 0 ∷ 0 ∷ 0 ∷ 0 ∷ 0
    ∷ 0 ∷ 1 ∷ 3 ∷ 0 ∷ 2 ∷ 3 ∷ 0 ∷ 0 ∷ 0 ∷ 0 ∷ 0 ∷ 0
    ∷ (replicate 52 0 ++ (9 ∷ []))
unfolding everything bytes_a map_bytes map_a
area_of_A = refl

-- "Rounding by adding one half and cutting: wrong just below 0.5": 1/98 × 49 is below a half by less than one half can show
just_below_a_half : rounded (product 0 49 0 98 1) ≡ 0
unfolding everything
just_below_a_half = refl

-- a half goes away from zero: 0.5 to 1, 2.5 to 3
half_goes_up : rounded (product 0 1 0 2 1) ≡ 1
unfolding everything
half_goes_up = refl

half_of_five_goes_up : rounded (product 0 5 0 2 1) ≡ 3
unfolding everything
half_of_five_goes_up = refl

-- a guess equal to an end moves by one: of 1/98 × 49 from 0 to 1, of 97/98 × 2 from 2 to 1
off_the_low-end : guess 0 49 0 98 1 ≡ 1
unfolding everything
off_the_low-end = refl

off_the_high-end : guess 0 2 0 98 97 ≡ 1
unfolding everything
off_the_high-end = refl

-- 01's listing, for map B
listing : ask bytes_b (ascii "0 3\n0 6\n\n3 3\n")
    ≡ ascii "steps 7 links 5 lines 3\nline no 1 order no\nline yes 3 order yes\nline refused 8 0 order yes\nline refused 10 1 order yes\n"
unfolding everything bytes_b map_bytes map_b
listing = refl

-- text: a needless zero, a number too large and a double space are bad; a last line without newline counts
texts : ask bytes_b (ascii "00\n65536\n0  3\n65535\n6 0") ≡ ascii
    "steps 7 links 5 lines 3\nrefused 15 0\nrefused 15 1\nrefused 15 2\nline refused 9 0 order refused 9 0\nline yes 3 order yes\n"
unfolding everything bytes_b map_bytes map_b
texts = refl

-- `why` on the lists of the listing, and on bad text
whys : why bytes_b (ascii "0 3\n0 6\n\n3 3\n0  3\n2 0 1 3 0")
    ≡ ascii "steps 7 links 5 lines 3\npath 0 1 3\nno path\nrefused 8 0\nrefused 10 1\nrefused 15 4\nrefused 10 4\n"
unfolding everything bytes_b map_bytes map_b
whys = refl

-- no map at all
nothing : ask [] (ascii "0\n") ≡ ascii "refused 1 0\n"
unfolding everything
nothing = refl
