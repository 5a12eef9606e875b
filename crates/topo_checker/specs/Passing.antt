-- The order check place by place: the marks in the area follow convexity_theory's states.
-- Rests on convexity_theory's Passed and Listing.
use Rattle.std.specs.Prelude.{ℕ, suc, ◌+◌, ◌≤◌, ◌<◌, ◌≡◌, Bool, true, false, cond, List, length, get_or, leb}
use Rattle.lists.specs.Lists.{one, member, greatest, least}
use Rattle.paper.specs.Intervals.{Reply, Yes, No}
use Rattle.convexity_theory.specs.places.Passed.{Passed, going, fed_back, pass_place, passed_below, reply_of}
use Rattle.tables.specs.declared.Layout.{Layout}
use Rattle.tables.specs.Within.{Within}
use Rattle.topo_checker.specs.declared.layout.OrderRoom.{OrderRoom}
use Rattle.topo_checker.specs.Listing.{marked_places}

-- the listed places are marked, and the range goes from the first to the last
pub record ListedBy (a : List ℕ) (at : Layout) (room : OrderRoom) (first last : ℕ) (places : List ℕ) : Type 0 where
  pub marked : (j : ℕ) → j < at.sizes.nodes → get_or a (room.listed + j) 0 ≡ one (member j places)
  pub lowest : least places ≡ first
  pub highest : greatest places ≡ last

-- the places in the list's future are marked
abbrev pub FutureBy : List ℕ → Layout → OrderRoom → List ℕ → Type 0
FutureBy a at room future = (j : ℕ) → j < at.sizes.nodes → get_or a (room.future + j) 0 ≡ one (member j future)

-- an area and an answer so far follow a state
abbrev pub Follows : Layout → OrderRoom → Bool → List ℕ → Passed → Type 0
Follows at room r m (going future) = (r ≡ false) × FutureBy m at room future
Follows at room r m fed_back = r ≡ true

-- what passing place i leaves, whatever is listed and in the future
pub record PlacePassed (b a : List ℕ) (at : Layout) (room : OrderRoom) (first last i : ℕ) (r : Bool) (m : List ℕ) : Type 0 where
  pub kept : Within room.future at.sizes.nodes a m
  pub follows : (places future : List ℕ) → ListedBy a at room first last places → FutureBy a at room future
      → Follows at room r m (pass_place b a places i (going future))

-- no place is in the list's future yet, and the range is known
pub record Unpassed (a : List ℕ) (at : Layout) (room : OrderRoom) (first last : ℕ) : Type 0 where
  pub blank : (j : ℕ) → j < at.sizes.nodes → get_or a (room.future + j) 0 ≡ 0
  pub rises : first ≤ last
  pub known : last < at.sizes.nodes

-- all places below i are passed, and none feeds back
pub record StillGoing (b a : List ℕ) (at : Layout) (room : OrderRoom) (i : ℕ) (places m : List ℕ) : Type 0 where
  pub future : List ℕ
  pub state : passed_below b a places i ≡ going future
  pub marked : FutureBy m at room future

-- what passing all places of the range comes to
pub record PlacesPassed (b a : List ℕ) (at : Layout) (room : OrderRoom) (first last : ℕ) (r : Bool) (m : List ℕ) : Type 0 where
  pub kept : Within room.future at.sizes.nodes a m
  pub replies : (places : List ℕ) → ListedBy a at room first last places → cond r No Yes ≡ reply_of (passed_below b a places (suc last))

-- ---- the check of the places marked

-- no place is in the list's future
pub record Fresh (a : List ℕ) (at : Layout) (room : OrderRoom) : Type 0 where
  pub blank : (j : ℕ) → j < at.sizes.nodes → get_or a (room.future + j) 0 ≡ 0

-- the places marked are these
pub record MarkedBy (a : List ℕ) (at : Layout) (room : OrderRoom) (places : List ℕ) : Type 0 where
  pub marked : (j : ℕ) → j < at.sizes.nodes → get_or a (room.listed + j) 0 ≡ one (member j places)
  pub whole : marked_places a room.listed at.sizes.nodes ≡ places

-- convexity_theory's `passing`, by the places of the list
unfoldable pub passing_over : List ℕ → List ℕ → List ℕ → Reply
passing_over b a places = cond (leb (length places) 1) Yes (reply_of (passed_below b a places (suc (greatest places))))

-- what checking them comes to
pub record MarkedChecked (b a : List ℕ) (at : Layout) (room : OrderRoom) (r : Bool) (m : List ℕ) : Type 0 where
  pub kept : Within room.future at.sizes.nodes a m
  pub replies : (places : List ℕ) → MarkedBy a at room places → cond r Yes No ≡ passing_over b a places
