-- The writer, turn by turn: each field goes behind the last one, in the rest of the output that is lent to it. Assumes nothing.
use Prim.Native.Nat.{ℕ, ◌+◌, ◌-◌, ◌<◌, ◌≤◌}
use mathlib.Core.Path.{◌≡◌, refl, sym, ap, ◌∙◌}
use mathlib.Core.Bool.{true}
use mathlib.Core.List.{List, [], ◌∷◌, ◌++◌, map}
use native.Mathlib.Omega.{arith}
use lib.ListN.{length, take, drop, set, length-set, length-drop}
use Rattle.text.specs.Words.{Word, split, after, up_to}
use Rattle.text.specs.Lent.{front}
use Rattle.text.proofs.Index.{rest, after_here}
use Rattle.text.proofs.Lent.{store, lent, next_out, next_rest, next_fits, whole_out}
use Rattle.kinds.specs.declared.MessageType.{MessageType}
use Rattle.kinds.specs.declared.Form.{Form}
use Rattle.kinds.specs.Kinds.{forms_of, form_at, RowFor}
use Rattle.records.specs.Records.{fit_all}
use Rattle.forms.specs.Forms.{field_of, written_of}
use Rattle.message.specs.Reading.{fault_in, spelled_from}
use Rattle.message.proofs.Faults.{clear_faultless}
use Rattle.message.proofs.Walk.{Even, even_next, fits_here, fits_next, spelled_turn, spelled_last}
use Rattle.std.specs.Prelude.{Ok}

-- the whole that is to be written
abbrev pub whole : MessageType → ℕ → List ℕ → List ℕ
whole t n s = spelled_from 40 (forms_of t n) (split 45 s)

-- a text without fault, of a type that has this row, and room for the whole
pub record Given (t : MessageType) (n : ℕ) (row : List Form) (s out : List ℕ) : Type 0 where
  pub is_row : RowFor t n row
  pub room : length (whole t n s) ≤ length out
  pub even : length (forms_of t n) ≡ length (split 45 s)
  pub clear : fault_in t n (split 45 s) ≡ Ok tt

-- the spelling from field j on, which begins at `at`, without the byte before it
abbrev pub spelled_at : MessageType → ℕ → List ℕ → ℕ → ℕ → List ℕ
spelled_at t n s at j = drop 1 (spelled_from 40 (drop j (forms_of t n)) (split 45 (drop at s)))

spelled_lead : (t : MessageType) (n : ℕ) (s : List ℕ) (at j lead : ℕ) → Even t n s at j
    → spelled_from lead (drop j (forms_of t n)) (split 45 (drop at s)) ≡ lead ∷ spelled_at t n s at j
spelled_lead t n s at j lead even =
    let turn = spelled_turn t n s at j (at + up_to 45 (drop at s)) refl even in
    turn lead ∙ ap (λ (l : List ℕ). lead ∷ drop 1 l) (sym (turn 40))

-- before field j, which begins at `at`: the first o bytes of the whole are written, and the rest of the output is as it was
pub record Writing (t : MessageType) (n : ℕ) (s out₀ out : List ℕ) (o at j : ℕ) : Type 0 where
  pub inside : at ≤ length s
  pub few : j ≤ at
  pub even : Even t n s at j
  pub fit : fit_all (map field_of (drop j (forms_of t n))) (split 45 (drop at s)) ≡ true
  pub room : length (whole t n s) ≤ length out₀
  pub long : length out ≡ length out₀
  pub within : o ≤ length (whole t n s)
  pub left : drop o (whole t n s) ≡ spelled_at t n s at j
  pub written : out ≡ take o (whole t n s) ++ drop o out₀

-- THE FIRST BYTE is the parenthesis

pub some_spelled : (lead : ℕ) (fs : List Form) (cs : List Word) → 0 < length (spelled_from lead fs cs)
some_spelled lead [] cs = omega arith
some_spelled lead (f ∷ fs) [] = omega arith
some_spelled lead (f ∷ fs) (c ∷ cs) = omega arith

opened : (out w rest : List ℕ) → 0 < length out → w ≡ 40 ∷ rest → set out 0 40 ≡ take 1 w ++ drop 1 (set out 0 40)
opened [] w rest h e = absurd (omega arith)
opened (b ∷ bs) w rest h e = rw e

pub front_opened : (w out : List ℕ) → 0 < length w → front w (set out 0 40) ≡ front w out
unfolding front
front_opened [] out h = absurd (omega arith)
front_opened (x ∷ w) [] h = refl
front_opened (x ∷ w) (b ∷ bs) h = refl

pub writing_starts : (t : MessageType) (n : ℕ) (row : List Form) (s out : List ℕ) → Given t n row s (set out 0 40)
    → Writing t n s (set out 0 40) (set out 0 40) 1 0 0
unfolding fault_in
writing_starts t n row s out g =
    let some = some_spelled 40 (forms_of t n) (split 45 s) in
    record {
      inside = omega arith;
      few = omega arith;
      even = g.even;
      fit = (clear_faultless [] 0 (forms_of t n) (split 45 s) g.even g.clear).fit;
      room = g.room;
      long = refl;
      within = omega (arith, some);
      left = refl;
      written = opened out (whole t n s) _ (omega (arith, some, g.room, length-set out 0 40)) (spelled_lead t n s 0 0 40 g.even);
    }

-- a turn: the field ends at e, and what is written of its content by form f is due
pub record Turn (t : MessageType) (n : ℕ) (s out₀ out : List ℕ) (o at j e : ℕ) (f : Form) : Type 0 where
  pub so_far : Writing t n s out₀ out o at j
  pub end : e ≡ at + up_to 45 (drop at s)
  pub is_form : f ≡ form_at t n j

module _ {t : MessageType} {n : ℕ} {s out₀ out : List ℕ} {o at j e : ℕ} {f : Form} (u : Turn t n s out₀ out o at j e f) where
  abbrev pub due : List ℕ
  due = written_of f (take (e - at) (drop at s))

  abbrev pub behind_due : List ℕ
  behind_due = spelled_from 45 (drop (j + 1) (forms_of t n)) (after 45 (drop e s))

  cut : drop o (whole t n s) ≡ due ++ behind_due
  cut =
      u.so_far.left ∙ ap (drop 1) (spelled_turn t n s at j e u.end u.so_far.even 40)
      ∙ ap (λ (g : Form). written_of g (take (e - at) (drop at s)) ++ behind_due) (sym u.is_form)

  pub turn_room : o + length due + length behind_due ≡ length (whole t n s)
  turn_room = next_fits (whole t n s) out₀ out o u.so_far.written u.so_far.within due behind_due cut

  -- the content fits its form, and the rest that is lent has room for what is due
  pub turn_content : (field_of f).fits (take (e - at) (drop at s)) ≡ true
  turn_content =
      ap (λ (g : Form). (field_of g).fits (take (e - at) (drop at s))) u.is_form ∙ fits_here t n s at j e u.end u.so_far.even u.so_far.fit

  pub turn_fits : length due ≤ length (take (length out - o) (drop o out))
  turn_fits = omega (arith, turn_room, ap length (rest out o), length-drop o out, u.so_far.long, u.so_far.room)

  module _ {k : ℕ} {ys : List ℕ} (counted : k ≡ length due) (wrote : ys ≡ front due (take (length out - o) (drop o out))) where
    abbrev pub output : List ℕ
    output = take o out ++ (ys ++ drop (length out - o) (drop o out))

    now_written : output ≡ take (o + k) (whole t n s) ++ drop (o + k) out₀
    now_written =
        lent out due o ys wrote ∙ next_out (whole t n s) out₀ out o u.so_far.written u.so_far.within due behind_due cut
        ∙ ap (λ (i : ℕ). take (o + i) (whole t n s) ++ drop (o + i) out₀) (sym counted)

    -- then a byte: the hyphen before the next field, or the parenthesis
    module _ (b : ℕ) (more : List ℕ) (behind : behind_due ≡ b ∷ more) (l : length output ≡ length out) where
      byte_cut : drop (o + k) (whole t n s) ≡ (b ∷ []) ++ more
      byte_cut =
          ap (λ (i : ℕ). drop (o + i) (whole t n s)) counted
          ∙ next_rest (whole t n s) out₀ out o u.so_far.written u.so_far.within due behind_due cut
          ∙ behind

      byte_fits : o + k + 1 + length more ≡ length (whole t n s)
      byte_fits = omega (arith, turn_room, ap length behind)

      byte_room : o + k < length output
      byte_room = omega (arith, byte_fits, l, u.so_far.long, u.so_far.room)

      byte_left : drop (o + k + 1) (whole t n s) ≡ more
      byte_left = next_rest (whole t n s) out₀ output (o + k) now_written (omega (arith, byte_fits)) (b ∷ []) more byte_cut

      byte_written : set output (o + k) b ≡ take (o + k + 1) (whole t n s) ++ drop (o + k + 1) out₀
      byte_written =
          store output (o + k) b byte_room
          ∙ next_out (whole t n s) out₀ output (o + k) now_written (omega (arith, byte_fits)) (b ∷ []) more byte_cut

    module _ (h : e < length s) (l : length output ≡ length out) where
      next_even : Even t n s (e + 1) (j + 1)
      next_even = even_next t n s at j e u.end u.so_far.even h

      hyphen : behind_due ≡ 45 ∷ spelled_at t n s (e + 1) (j + 1)
      hyphen = ap (spelled_from 45 (drop (j + 1) (forms_of t n))) (after_here 45 s e h) ∙ spelled_lead t n s (e + 1) (j + 1) 45 next_even

      pub next_room : o + k < length output
      next_room = byte_room 45 _ hyphen l

      pub turn_next : Writing t n s out₀ (set output (o + k) 45) (o + k + 1) (e + 1) (j + 1)
      turn_next =
          record {
            inside = omega arith;
            few = omega (arith, u.so_far.few);
            even = next_even;
            fit = fits_next t n s at j e u.end u.so_far.even u.so_far.fit h;
            room = u.so_far.room;
            long = length-set output (o + k) 45 ∙ l ∙ u.so_far.long;
            within = omega (arith, byte_fits 45 _ hyphen l);
            left = byte_left 45 _ hyphen l;
            written = byte_written 45 _ hyphen l;
          }

    -- behind the last field the parenthesis is left
    module _ (h : length s ≤ e) (l : length output ≡ length out) where
      parenthesis : behind_due ≡ 41 ∷ []
      parenthesis = spelled_last t n s at j e u.end u.so_far.even h

      pub last_long : o + k + 1 ≡ length (whole t n s)
      last_long = omega (arith, byte_fits 41 [] parenthesis l)

      pub last_room : o + k < length output
      last_room = byte_room 41 [] parenthesis l

      pub last_written : set output (o + k) 41 ≡ front (whole t n s) out₀
      last_written = whole_out (whole t n s) out₀ _ (o + k + 1) (byte_written 41 [] parenthesis l) last_long
