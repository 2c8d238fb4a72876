-- THE KEEPERS OF specs/Slips.antt DO NOT MEET WHAT IS ASKED, each shown by a run of toy strips. Assumes nothing.
use Prim.Native.Nat.{ℕ, zero, ◌≤◌}
use mathlib.Core.Path.{◌≡◌, refl, ap}
use mathlib.Core.Bool.{false≢true}
use mathlib.Core.List.{List, [], ◌∷◌, ◌++◌}
use native.Mathlib.Omega.{arith}
use lib.ListN.{replicate}
use Rattle.rooms.specs.declared.Firm.TheVariants.{First, Second}
use Rattle.rooms.specs.Rooms.{Call, Said}
use Rattle.rooms.specs.Rooms.Act.{file, update, clear}
use Rattle.rooms.specs.Rooms.Reply.{filed, updated, cleared, refused, no_firm, no_slot, no_room, not_over}
use Rattle.rooms.specs.Keeper.{Heard}
use Rattle.rooms.specs.Counts.{tally}
use Rattle.rooms.specs.Demands.{accepted, Meets}
use Rattle.rooms.specs.Toy.{toy, by}
use Rattle.rooms.specs.Slips.{frees_other, asks_other, takes_highest, asks_first, first_comers}

-- A CLEARING THAT FREES THE OTHER'S ROOM: the first firm's strip stays where it was cleared
pub frees_other_fails : Meets toy (frees_other toy) → ⊥
frees_other_fails m =
    let e : ◌≡◌ {A = ℕ} 1 0 = (m.counts (by 1 (file 5) ∷ by 1 (update 0 5) ∷ by 1 (clear 0) ∷ [])).agrees First in
    omega (arith, e)

-- AN UPDATE'S ANSWER THAT DEPENDS ON THE OTHER FIRM: the first is answered otherwise once the second has filed

abbrev taken : List (Heard toy) → ℕ
taken [] = zero
taken (h ∷ hs) = tally (accepted h.answer) (taken hs)

pub asks_other_fails : Meets toy (asks_other toy) → ⊥
asks_other_fails m =
    let i = m.independent First (by 1 (file 5) ∷ by 1 (update 0 1) ∷ []) (by 2 (file 5) ∷ by 1 (file 5) ∷ by 1 (update 0 1) ∷ []) refl in
    let e : ◌≡◌ {A = ℕ} 2 1 = ap taken i.answers in
    omega (arith, e)

-- THE HIGHEST EMPTY SLOT: nothing stands below slot 9 of the empty board

abbrev slot_of : Said toy → ℕ
slot_of (filed k s) = k
slot_of (updated k s) = k
slot_of (cleared k) = k
slot_of (refused w) = 0
slot_of no_firm = 0
slot_of no_slot = 0
slot_of no_room = 0
slot_of not_over = 0

pub takes_highest_fails : Meets toy (takes_highest toy) → ⊥
takes_highest_fails m =
    let w = (m.filing_right [] 1 First refl 5).otherwise_filed (λ full. omega (arith, full.six)) 5 refl in
    let nine : ◌≡◌ {A = ℕ} 9 w.0 = ap slot_of w.1 in
    false≢true (w.4 0 (omega (arith, nine)))

-- THE FIRST FIRM'S ROOM, WHOEVER FILES: once the first firm holds ten, the second, which holds none, is refused

pub asks_first_fails : Meets toy (asks_first toy) → ⊥
asks_first_fails m =
    let six : 6 ≤ 0 = ((m.filing_right (replicate 10 (by 1 (file 1))) 2 Second refl 2).refused_full refl).six in
    omega (arith, six)

-- THE SHARED ROOM BY WHO FILED FIRST: the first firm files seven and clears the first of them, so it uses none of the 4; but the seventh keeps its shared
-- room, and the second firm's tenth filing finds none

abbrev seven : List (Call ℕ)
seven = replicate 7 (by 1 (file 1)) ++ by 1 (update 0 9) ∷ by 1 (clear 0) ∷ replicate 9 (by 2 (file 2))

pub first_comers_fails : Meets toy (first_comers toy) → ⊥
first_comers_fails m =
    let e : ◌≡◌ {A = ℕ} 1 0 = ((m.filing_right seven 2 Second refl 2).refused_full refl).none_free in
    omega (arith, e)
