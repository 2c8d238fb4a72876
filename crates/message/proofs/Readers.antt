-- Readers that do not meet the answers: one that refuses all, one that gives one fixed answer, one that points elsewhere than at the byte, one that
-- accepts everything as one type with one length, and one that writes one fixed spelling. Assumes nothing.
use Prim.Native.Nat.{ℕ}
use mathlib.Core.Path.{◌≡◌, sym, ap, ◌∙◌}
use mathlib.Core.Bool.{true, false, false≢true}
use mathlib.Core.List.{List}
use native.Mathlib.Omega.{arith}
use lib.ListN.{length, get_or, replicate}
use Rattle.alphabet.specs.Text.{bytes}
use Rattle.text.specs.Lent.{front}
use Rattle.kinds.specs.declared.MessageType.{MessageType}
use Rattle.kinds.specs.declared.MessageType.TheVariants.{Cnl, Dla}
use Rattle.outer.proofs.Same.{ok_same}
use Rattle.message.specs.Answer.{Answer}
use Rattle.message.specs.Reading.{answer_of}
use Rattle.message.specs.Message.{accepts, Meets, Writes}
use Rattle.message.proofs.Examples.{cancelled, not_a_time, accepted_types, written_out}
use Rattle.std.specs.Prelude.{Ok, Err}
use Rattle.outer.specs.Refusal.{refusal}

abbrev cancelling : List ℕ
cancelling = bytes "(CNL-ABC12-EHAM0930-EDDF-0)"

abbrev delaying : List ℕ
delaying = bytes "(DLA-ABC12-EHAM0930-EDDF-0)"

abbrev misdelaying : List ℕ
misdelaying = bytes "(DLA-ABC12-EHAM2460-EDDF-0)"

delayed : answer_of delaying 100 ≡ Ok (Dla, 27)
delayed = accepted_types.2

-- a reader that refuses all
pub refuses_all_lem : (r : List ℕ → ℕ → Answer) → ((m : List ℕ) (room : ℕ) → accepts (r m room) ≡ false) → Meets r → ⊥
refuses_all_lem r none meets = false≢true (sym (none cancelling 100) ∙ ap accepts (meets cancelling 100 ∙ cancelled))

-- a reader that accepts all
pub accepts_all : (r : List ℕ → ℕ → Answer) → ((m : List ℕ) (room : ℕ) → accepts (r m room) ≡ true) → Meets r → ⊥
accepts_all r each meets = false≢true (sym (ap accepts (meets misdelaying 100 ∙ not_a_time)) ∙ each misdelaying 100)

-- a reader that gives one fixed answer
pub one_answer : (a : Answer) → Meets (λ m room. a) → ⊥
one_answer a meets =
    let e : ◌≡◌ {A = Answer} (Ok (Cnl, 27)) (Err (refusal 7 13 16)) = sym (meets cancelling 100 ∙ cancelled) ∙ meets misdelaying 100 ∙ not_a_time in
    cc

-- a reader that points elsewhere than at the byte
abbrev place_given : Answer → ℕ
place_given (Ok (t, n)) = 0
place_given (Err r) = r.place

pub points_elsewhere : (r : List ℕ → ℕ → Answer) (p : ℕ) → r misdelaying 100 ≡ Err (refusal 7 13 p) → (p ≡ 16 → ⊥) → Meets r → ⊥
points_elsewhere r p e n meets = n (ap place_given (sym e ∙ meets misdelaying 100 ∙ not_a_time))

-- one byte early, one byte late, and at the field's `-`
pub wrong_places : (r : List ℕ → ℕ → Answer)
    → (r misdelaying 100 ≡ Err (refusal 7 13 15) → Meets r → ⊥) × (r misdelaying 100 ≡ Err (refusal 7 13 17) → Meets r → ⊥)
    × (r misdelaying 100 ≡ Err (refusal 7 13 10) → Meets r → ⊥)
wrong_places r =
    (λ e. points_elsewhere r 15 e (λ z. omega arith), λ e. points_elsewhere r 17 e (λ z. omega arith), λ e. points_elsewhere r 10 e (λ z. omega arith))

-- a reader that accepts some, but all that it accepts as one type and of one length
pub one_acceptance : (t : MessageType) (n : ℕ) (r : List ℕ → ℕ → Answer) → ((m : List ℕ) (room : ℕ) → accepts (r m room) ≡ true → r m room ≡ Ok (t, n))
    → Meets r → ⊥
one_acceptance t n r one meets =
    let a = meets cancelling 100 ∙ cancelled in
    let b = meets delaying 100 ∙ delayed in
    let e : ◌≡◌ {A = Answer} (Ok (Cnl, 27)) (Ok (Dla, 27)) = sym a ∙ one cancelling 100 (ap accepts a) ∙ sym (one delaying 100 (ap accepts b)) ∙ b in
    let same = (ok_same Cnl Dla 27 27 e).0 in
    cc

-- a reader that writes one fixed spelling, whatever it accepts
pub one_spelling : (w : List ℕ) (o : List ℕ → List ℕ → List ℕ) → ((m out : List ℕ) → accepts (answer_of m (length out)) ≡ true → o m out ≡ front w out)
    → Writes o → ⊥
one_spelling w o one meets =
    let out : List ℕ = replicate 100 46 in
    let a : o cancelling out ≡ front w out = one cancelling out (ap accepts cancelled) in
    let b : o delaying out ≡ front w out = one delaying out (ap accepts delayed) in
    let e = sym (meets cancelling out ∙ written_out.0) ∙ a ∙ sym b ∙ meets delaying out ∙ written_out.1 in
    let z : ◌≡◌ {A = ℕ} 67 68 = ap (λ (l : List ℕ). get_or l 1 0) e in
    omega arith
