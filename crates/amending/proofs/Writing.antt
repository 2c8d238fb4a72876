-- The amended plan, field by field: how it is written turn by turn. Assumes nothing.
use Prim.Native.Nat.{ℕ, zero, suc, ◌+◌, ◌-◌, ◌<◌, ◌≤◌}
use mathlib.Core.Path.{◌≡◌, refl, sym, ap, ◌∙◌}
use mathlib.Core.Bool.{Bool, cond}
use mathlib.Core.List.{List, [], ◌∷◌, ◌++◌, append_assoc}
use native.Mathlib.Omega.{arith}
use native.Mathlib.Numerals.{add-one}
use lib.ListN.{length, take, drop, set, length-drop}
use lib.Seq.{drop-drop}
use borrow.Author.Tests.{ne_eqb}
use Rattle.text.specs.Words.{Word, join, up_to, before, behind}
use Rattle.text.specs.Lent.{front}
use Rattle.text.proofs.Index.{rest, piece}
use Rattle.text.proofs.Lent.{store, lent, Writing, begin, due, room, onward, all_written}
use Rattle.space.specs.Hyphens.{behind_hyphen}
use Rattle.kinds.specs.declared.Role.{Role}
use Rattle.message.specs.Reading.{lead_of}
use Rattle.message.proofs.Nth.{field_at_lem}
use Rattle.force.specs.InForce.{fields_from}
use Rattle.amending.specs.Amended.{content_in, content_of, new_strip}

-- THE WALK OVER THE PLAN: the cursor at its field k

pub record AtField (plan : List ℕ) (k at : ℕ) : Type 0 where
  pub inside : at ≤ length plan
  pub ahead : drop at plan ≡ behind_hyphen k plan

pub first_field : (plan : List ℕ) → AtField plan 0 0
unfolding behind_hyphen
first_field plan = record { inside = omega arith; ahead = refl }

next_behind : (k : ℕ) (s : List ℕ) → behind_hyphen (suc k) s ≡ behind 45 (behind_hyphen k s)
unfolding behind_hyphen
next_behind zero s = refl
next_behind (suc k) s = next_behind k (behind 45 s)

-- the next field, from the end of this one
pub behind_field : {plan : List ℕ} {k at e : ℕ} (next : ℕ) → AtField plan k at → e ≡ at + up_to 45 (drop at plan)
    → (next ≤ length plan) × (drop next plan ≡ drop (suc e) plan) → AtField plan (k + 1) next
behind_field {plan} {k} {at} {e} next h end step =
    let z : suc e ≡ at + suc (up_to 45 (drop at plan)) = omega arith in
    record {
      inside = step.0;
      ahead =
          step.1 ∙ ap (λ (i : ℕ). drop i plan) z ∙ sym (drop-drop (suc (up_to 45 (drop at plan))) at plan)
          ∙ ap (behind 45) h.ahead ∙ sym (next_behind k plan) ∙ ap (λ (j : ℕ). behind_hyphen j plan) (sym (add-one k));
    }

-- field k of the amended plan, from what stands between the cursor and the field's end
pub content_to : (role : Role) (plan said : List ℕ) {k at : ℕ} → AtField plan k at → {e : ℕ} → e ≡ at + up_to 45 (drop at plan)
    → content_in role (take (e - at) (drop at plan)) said k ≡ content_of role plan said k
content_to role plan said {k} {at} h {e} end =
    ap (λ (v : Word). content_in role v said k) (piece 45 plan at e end ∙ ap (before 45) h.ahead ∙ sym (field_at_lem k plan))

-- THE SPELLING of contents, the first behind this byte and the others behind hyphens, up to the closing parenthesis

abbrev pub spelled : ℕ → List Word → List ℕ
spelled lead [] = 41 ∷ []
spelled lead (c ∷ cs) = (lead ∷ c) ++ spelled 45 cs

spelled_joined : (lead : ℕ) (c : Word) (cs : List Word) → spelled lead (c ∷ cs) ≡ lead ∷ (join 45 (c ∷ cs) ++ (41 ∷ []))
spelled_joined lead c [] = refl
spelled_joined lead c (d ∷ cs) =
    ap (λ (w : List ℕ). lead ∷ (c ++ w)) (spelled_joined 45 d cs)
    ∙ ap (λ (w : List ℕ). lead ∷ w) (sym (append_assoc c (45 ∷ join 45 (d ∷ cs)) (41 ∷ [])))

-- what is left of the amended plan at field j
abbrev pub left : Role → List ℕ → List ℕ → ℕ → List ℕ
left role plan said j = spelled (lead_of j) (fields_from (content_of role plan said) j (9 - j))

module _ (role : Role) (plan said : List ℕ) where
  pub left_first : new_strip role plan said ≡ left role plan said 0
  unfolding new_strip
  left_first = sym (spelled_joined 40 (content_of role plan said 0) (fields_from (content_of role plan said) 1 8))

  pub left_turn : (j : ℕ) → j < 9 → left role plan said j ≡ (lead_of j ∷ content_of role plan said j) ++ left role plan said (j + 1)
  left_turn j h =
      let z : 9 - j ≡ suc (9 - (j + 1)) = omega arith in
      ap (λ (n : ℕ). spelled (lead_of j) (fields_from (content_of role plan said) j n)) z
      ∙ ap (λ (i : ℕ). (lead_of j ∷ content_of role plan said j) ++ spelled 45 (fields_from (content_of role plan said) i (9 - (j + 1)))) (sym (add-one j))
      ∙ ap (λ (b : Bool). (lead_of j ∷ content_of role plan said j) ++ spelled (cond b 40 45) (fields_from (content_of role plan said) (j + 1) (9 - (j + 1))))
      (sym (ne_eqb (j + 1) 0 (λ e. omega arith)))

  pub left_last : (j : ℕ) → 9 ≤ j → left role plan said j ≡ 41 ∷ []
  left_last j h = let z : 9 - j ≡ 0 = omega arith in ap (λ (n : ℕ). spelled (lead_of j) (fields_from (content_of role plan said) j n)) z

  -- ITS WRITING: before field j the first o bytes are written, and the rest of the output is as it was
  pub record Amending (out₀ out : List ℕ) (o j : ℕ) : Type 0 where
    pub nine : j ≤ 9
    pub enough : length (new_strip role plan said) ≤ length out₀
    pub long : length out ≡ length out₀
    pub turn : Writing (new_strip role plan said) out₀ out o (left role plan said j)

  pub amending_starts : (out : List ℕ) → length (new_strip role plan said) ≤ length out → Amending out out 0 0
  amending_starts out h = record { nine = omega arith; enough = h; long = refl; turn = due (begin (new_strip role plan said) out) left_first }

  -- a turn: field j, behind the byte that leads to it
  pub record Turn (out₀ out : List ℕ) (o j : ℕ) (w : Word) : Type 0 where
    pub so_far : Amending out₀ out o j
    pub more : j < 9
    pub is_content : w ≡ content_of role plan said j

module _ {role : Role} {plan said out₀ out : List ℕ} {o j : ℕ} {w : Word} (u : Turn role plan said out₀ out o j w) where
  ahead : left role plan said j ≡ (lead_of j ∷ w) ++ left role plan said (j + 1)
  ahead =
      left_turn role plan said j u.more
      ∙ ap (λ (v : Word). (lead_of j ∷ v) ++ left role plan said (j + 1)) (sym u.is_content)

  turn_due : Writing (new_strip role plan said) out₀ out o ((lead_of j ∷ w) ++ left role plan said (j + 1))
  turn_due = due u.so_far.turn ahead

  pub turn_room : o + length (lead_of j ∷ w) + length (left role plan said (j + 1)) ≡ length (new_strip role plan said)
  turn_room = room (lead_of j ∷ w) (left role plan said (j + 1)) turn_due

  -- the rest that is lent has room for it
  pub turn_fits : length (lead_of j ∷ w) ≤ length (take (length out - o) (drop o out))
  turn_fits = omega (arith, turn_room, ap length (rest out o), length-drop o out, u.so_far.long, u.so_far.enough)

  pub turn_next : {ys : List ℕ} → ys ≡ front (lead_of j ∷ w) (take (length out - o) (drop o out))
      → length (take o out ++ (ys ++ drop (length out - o) (drop o out))) ≡ length out
      → Amending role plan said out₀ (take o out ++ (ys ++ drop (length out - o) (drop o out))) (o + length (lead_of j ∷ w)) (j + 1)
  turn_next {ys} wrote l =
      record {
        nine = omega (arith, u.more);
        enough = u.so_far.enough;
        long = l ∙ u.so_far.long;
        turn = onward (lead_of j ∷ w) (left role plan said (j + 1)) turn_due _ (lent out (lead_of j ∷ w) o ys wrote);
      }

-- behind the last field the parenthesis is left
module _ {role : Role} {plan said out₀ out : List ℕ} {o j : ℕ} (k : Amending role plan said out₀ out o j) (h : 9 ≤ j) where
  closing : Writing (new_strip role plan said) out₀ out o ((41 ∷ []) ++ [])
  closing = due k.turn (left_last role plan said j h)

  pub last_long : o + 1 ≡ length (new_strip role plan said)
  last_long = omega (arith, room (41 ∷ []) [] closing)

  pub last_room : o < length out
  last_room = omega (arith, last_long, k.long, k.enough)

  pub last_written : set out o 41 ≡ front (new_strip role plan said) out₀
  last_written = (all_written (onward (41 ∷ []) [] closing (set out o 41) (store out o 41 last_room))).1
