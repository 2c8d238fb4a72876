-- The contracts of the library's public functions determine their results. One law for each kind of contract; those that say no more than an
-- equation are under `equation`, and the others are named each. Assumes nothing.
use Prim.Native.Nat.{ℕ, ◌+◌, ◌-◌, ◌≤◌, ◌<◌}
use mathlib.Core.Path.{◌≡◌, refl, sym, ap, ap₂, ◌∙◌}
use mathlib.Core.List.{List, []}
use mathlib.Core.Option.{some-injective, some-ne-none}
use native.Mathlib.Omega.{arith}
use lib.ListN.{length, take, drop, length-drop}
use lib.Seq.{length-take-le}
use Rattle.std.specs.Prelude.{Option, Some, None}
use Rattle.text.specs.Words.{up_to, before}
use Rattle.text.specs.Places.{Stepped}
use Rattle.text.specs.Lent.{front}
use Rattle.text.specs.declared.Cursor.{Cursor}
use Rattle.shape.specs.Numbers.{value}
use Rattle.space.specs.Reduced.{reduced}
use Rattle.space.specs.Fields.{inner}
use Rattle.space.specs.Hyphens.{behind_hyphen}
use Rattle.canonical.specs.Canonical.{written19}
use Rattle.dates.specs.Dates.{with_date, Puts}
use Rattle.kinds.specs.declared.Form.{Form}
use Rattle.kinds.specs.Kinds.{first_entry}
use Rattle.forms.specs.Forms.{rank_in, written_of}
use Rattle.message.specs.Answer.{Answer}
use Rattle.lines.specs.declared.Told.{Told}
use Rattle.lines.specs.Lines.{Tells}
use Rattle.state.specs.declared.Strip.{Strip}
use Rattle.opening.specs.Opening.{opening_of, scratch_after}
use Rattle.force.specs.declared.Span.{Span}
use Rattle.force.specs.InForce.{in_force, AtEntries, FoundIn}
use Rattle.strip.specs.Updating.{Updated, update_of, out_after as updated_out}
use Rattle.asked.specs.Asking.{Asked, rank_of, asked_of, shown, StandsAt}
use Rattle.asked.specs.Parts.{Shows}
use Rattle.parts.specs.Parts.{Part, Planned, field_of, content_asked as content_numbered, planned_of}
use Rattle.parts.specs.Shown.{Shows as ShowsField, ShowsPlan}
use Rattle.history.specs.Demand3.{Standing, Offer}
use Rattle.rooms.specs.Rooms.{Call}
use Rattle.rooms.specs.declared.Firm.{Firm}
use Rattle.racks.specs.declared.Board.{Board}
use Rattle.racks.specs.Places.{Place, Puts as PutsIn}
use Rattle.board.specs.declared.Turn.{Turn}
use Rattle.board.specs.Turns.{Turned, clearing, Clearing}
use Rattle.board.proofs.Turns.{turned_one}
use Rattle.demands.specs.Demands.{Reads}
use Rattle.demands.specs.Determined.{Determines}
use Rattle.demands.specs.Turns.{Updates}
use Rattle.std.specs.Prelude.{Ok, Err}
use Rattle.asked.specs.declared.Place.TheVariants.{InChange, InStrip}

-- AN EQUATION: the contract gives the result, `r ≡ v`

pub equation : (A : Type 0) (v : A) → Determines A (λ r. r ≡ v)
equation A v x y p q = p ∙ sym q

-- A PART of a lent slice, which the contract gives by its bytes, `now r ≡ v`: they are determined. Where the part stands is not: equal bytes
-- may stand at two places of the slice
pub part_bytes : (v : List ℕ) → Determines (List ℕ) (λ bytes. bytes ≡ v)
part_bytes v = equation (List ℕ) v

-- AN EQUATION AND MORE, which callers use: bounds

pub bounded : (A : Type 0) (v : A) (more : A → Type 0) → Determines A (λ r. (r ≡ v) × more r)
bounded A v more x y p q = p.0 ∙ sym q.0

pub find_one : (s : List ℕ) (from c : ℕ) → Determines ℕ (λ r. (r ≡ from + up_to c (drop from s)) × ((from ≤ r) × (r ≤ length s)))
find_one s from c = bounded ℕ (from + up_to c (drop from s)) (λ r. (from ≤ r) × (r ≤ length s))

pub end_one : (s : List ℕ) (self : Cursor) (c : ℕ)
    → Determines ℕ (λ r. (r ≡ self.at + up_to c (drop self.at s)) × ((self.at ≤ r) × (r ≤ length s)))
end_one s self c = find_one s self.at c

pub rank_in_one : (f : Form) (s : List ℕ) → Determines ℕ (λ r. (r ≡ rank_in f s) × (r ≤ 8))
rank_in_one f s = bounded ℕ (rank_in f s) (λ r. r ≤ 8)

-- one digit, and the numbers of two, three and four digits
pub digit_one : (b : ℕ) → Determines ℕ (λ r. (r ≡ b - 48) × (r < 256))
digit_one b = bounded ℕ (b - 48) (λ r. r < 256)

pub digits_one : (k most : ℕ) (w : List ℕ) (i : ℕ) → Determines ℕ (λ r. (r ≡ value (take k (drop i w))) × (r < most))
digits_one k most w i = bounded ℕ (value (take k (drop i w))) (λ r. r < most)

-- A WRITER: how many bytes, and the output afterwards

pub written : (A : Type 0) (v : A) (w : List ℕ) → Determines (A × List ℕ) (λ r. (r.0 ≡ v) × (r.1 ≡ w))
written A v w x y p q = ap₂ (λ (a : A) (after : List ℕ). (a, after)) (p.0 ∙ sym q.0) (p.1 ∙ sym q.1)

-- the bytes w at the front of the output
pub front_one : (w out : List ℕ) → Determines (ℕ × List ℕ) (λ r. (r.0 ≡ length w) × (r.1 ≡ front w out))
front_one w out = written ℕ (length w) (front w out)

pub put_one : (part out : List ℕ) → Determines (ℕ × List ℕ) (λ r. (r.0 ≡ length part) × (r.1 ≡ front part out))
put_one part out = front_one part out

pub reduce_one : (m buf : List ℕ) → Determines (ℕ × List ℕ) (λ r. (r.0 ≡ length (reduced m)) × (r.1 ≡ front (reduced m) buf))
reduce_one m buf = front_one (reduced m) buf

pub write_fitting19_one : (s out : List ℕ) → Determines (ℕ × List ℕ) (λ r. (r.0 ≡ length (written19 s)) × (r.1 ≡ front (written19 s) out))
write_fitting19_one s out = front_one (written19 s) out

pub write_fitting_one : (f : Form) (s out : List ℕ) → Determines (ℕ × List ℕ) (λ r. (r.0 ≡ length (written_of f s)) × (r.1 ≡ front (written_of f s) out))
write_fitting_one f s out = front_one (written_of f s) out

pub put_dated_one : (d s out : List ℕ) → Determines (ℕ × List ℕ) (λ r. Puts (with_date d s) r.0 out r.1)
put_dated_one d s out = front_one (with_date d s) out

-- A STEP of a cursor, which the contract gives by what is left behind it: the place is determined, for it is in the text or at its end

pub step_place : (c : ℕ) (s : List ℕ) (at : ℕ) → Determines ℕ (λ next. Stepped c s at next)
step_place c s at x y p q =
    let left : length (drop x s) ≡ length (drop y s) = ap length (p.over ∙ sym q.over) in
    omega (arith, left, length-drop x s, length-drop y s, p.inside, q.inside)

pub next_one : (c : ℕ) (s : List ℕ) (self : Cursor) → Determines Cursor (λ r. Stepped c s self.at r.at)
next_one c s self x y p q = ap (λ (at : ℕ). record { at = at }) (step_place c s self.at x.at y.at p q)

pub part_one : (c : ℕ) (s : List ℕ) (self : Cursor) → Determines (List ℕ) (λ bytes. bytes ≡ before c (drop self.at s))
part_one c s self = part_bytes (before c (drop self.at s))

-- FINDING A FIELD: the cursor at it, and the ends of an entry's content

cursor_one : (s w : List ℕ) → Determines Cursor (λ r. (r.at ≤ length s) × (drop r.at s ≡ w))
cursor_one s w x y p q =
    let left : length (drop x.at s) ≡ length (drop y.at s) = ap length (p.1 ∙ sym q.1) in
    let at : x.at ≡ y.at = omega (arith, left, length-drop x.at s, length-drop y.at s, p.0, q.0) in
    ap (λ (i : ℕ). record { at = i }) at

-- `message::onward`, `force::seek` and `force::first_entry`
pub onward_one : (from : Cursor) (n : ℕ) (s : List ℕ)
    → Determines Cursor (λ r. (r.at ≤ length s) × (drop r.at s ≡ behind_hyphen n (drop from.at s)))
onward_one from n s = cursor_one s (behind_hyphen n (drop from.at s))

pub seek_one : (j : ℕ) (s : List ℕ) → Determines Cursor (λ r. (r.at ≤ length s) × (drop r.at s ≡ behind_hyphen j s))
seek_one j s = cursor_one s (behind_hyphen j s)

pub first_entry_one : (chg : List ℕ) → Determines Cursor (λ r. AtEntries chg r.at)
first_entry_one chg = cursor_one chg (behind_hyphen first_entry chg)

pub named_one : (chg : List ℕ) (k : ℕ) → Determines (Option Span) (FoundIn chg k)
named_one chg k (Some s) (Some t) p q =
    let from : s.from ≡ t.from = some-injective s.from t.from (sym p.3 ∙ q.3) in
    let same : take (s.to - s.from) (drop s.from chg) ≡ take (t.to - t.from) (drop t.from chg) = some-injective _ _ (sym p.2 ∙ q.2) in
    let long : s.to - s.from ≡ t.to - t.from
    = sym (length-take-le (s.to - s.from) (drop s.from chg) (omega (arith, p.1, length-drop s.from chg))) ∙ ap length same
    ∙ length-take-le (t.to - t.from) (drop t.from chg) (omega (arith, q.1, length-drop t.from chg)) in
    let to : s.to ≡ t.to = omega (arith, from, long, p.0, q.0) in
    ap₂ (λ (i j : ℕ). Some (record { from = i; to = j })) from to
named_one chg k (Some s) None p q = absurd (some-ne-none s.from (sym p.3 ∙ q.1))
named_one chg k None (Some t) p q = absurd (some-ne-none t.from (sym q.3 ∙ p.1))
named_one chg k None None p q = refl

-- A PART AND WHERE IT STANDS: its bytes, the slice that it is in, and its place there

placed : {A : Type 0} (w v : List ℕ) (a b : A) (i j : ℕ) → w ≡ v → a ≡ b → i ≡ j → ◌≡◌ {A = List ℕ × (A × ℕ)} (w, (a, i)) (v, (b, j))
placed {A = A} w v a b i j p q r = ap₂ (λ (x : List ℕ) (y : A × ℕ). (x, y)) p (ap₂ (λ (x : A) (y : ℕ). (x, y)) q r)

-- `asked::in_force`, from a strip and a CHG
pub shown_one : {A : Type 0} (strip : List ℕ) (held : Strip) (chg : List ℕ) (number : ℕ) (sb : A) (sp : ℕ) (cb : A) (cp : ℕ)
    → Determines (List ℕ × (A × ℕ))
    (λ r. (r.0 ≡ shown (asked_of strip held chg number) strip chg number) × StandsAt (asked_of strip held chg number) sb sp cb cp r.1.0 r.1.1)
shown_one strip held chg number sb sp cb cp x y p q = go (asked_of strip held chg number) p.1 q.1
  where
    go : (a : Asked) → StandsAt a sb sp cb cp x.1.0 x.1.1 → StandsAt a sb sp cb cp y.1.0 y.1.1 → x ≡ y
    go (Ok (InStrip from to)) u v = placed x.0 y.0 x.1.0 y.1.0 x.1.1 y.1.1 (p.0 ∙ sym q.0) (u.0 ∙ sym v.0) (u.1 ∙ sym v.1)
    go (Ok (InChange from to)) u v = placed x.0 y.0 x.1.0 y.1.0 x.1.1 y.1.1 (p.0 ∙ sym q.0) (u.0 ∙ sym v.0) (u.1 ∙ sym v.1)
    go (Err r) u v = placed x.0 y.0 x.1.0 y.1.0 x.1.1 y.1.1 (p.0 ∙ sym q.0) (u.0 ∙ sym v.0) (u.1 ∙ sym v.1)

-- `asked::ask`: the answer, and what its place says of the bytes there
pub ask_one : (strip : List ℕ) (held : Strip) (chg : List ℕ) (number : ℕ)
    → Determines Asked (λ r. (r ≡ asked_of strip held chg number) × Shows r strip chg (in_force (inner strip) (inner chg) (rank_of number)))
ask_one strip held chg number = bounded Asked (asked_of strip held chg number) (λ r. Shows r strip chg (in_force (inner strip) (inner chg) (rank_of number)))

-- `parts::field_of` and `parts::plan_parts`: the answer, and what its places say of the bytes there
pub field_one : (m : List ℕ) (n : ℕ) → Determines Part (λ r. (r ≡ field_of m n) × ShowsField r m (content_numbered m n))
field_one m n = bounded Part (field_of m n) (λ r. ShowsField r m (content_numbered m n))

pub planned_one : (m : List ℕ) → Determines Planned (λ r. (r ≡ planned_of m) × ShowsPlan r m)
planned_one m = bounded Planned (planned_of m) (λ r. ShowsPlan r m)

-- OPENING A STRIP: the answer, and every byte of the scratch

pub open_one : (strip : List ℕ) (held : Strip) (m scratch : List ℕ)
    → Determines (Answer × List ℕ) (λ r. (r.0 ≡ opening_of strip held m) × (r.1 ≡ scratch_after (opening_of strip held m) m scratch))
open_one strip held m scratch = written Answer (opening_of strip held m) (scratch_after (opening_of strip held m) m scratch)

-- UPDATING: the answer with the record, and every byte of the output

pub update_one : (strip : List ℕ) (held : Strip) (m out : List ℕ)
    → Determines (Updated × List ℕ) (λ r. (r.0 ≡ update_of strip held m (length out)) × (r.1 ≡ updated_out strip held m out))
update_one strip held m out = written Updated (update_of strip held m (length out)) (updated_out strip held m out)

pub updates_one : (b : Standing) (o : Offer) (a c : Updated) (after left : List ℕ) → Updates b o a after → Updates b o c left → (a ≡ c) × (after ≡ left)
updates_one b o a c after left u v = (u.answer_is ∙ sym v.answer_is, u.output_is ∙ sym v.output_is)

-- READING: the answer and every byte of the output

pub read_one : (m out : List ℕ) (a b : Answer) (after left : List ℕ) → Reads m out a after → Reads m out b left → (a ≡ b) × (after ≡ left)
read_one m out a b after left r q = (r.answer_is ∙ sym q.answer_is, r.output_is ∙ sym q.output_is)

-- THE LINE OF A PIECE: what is told of it, and every byte of the output

pub line_one : (m out : List ℕ) (r q : Told) (after left : List ℕ) → Tells m out r after → Tells m out q left → (r ≡ q) × (after ≡ left)
line_one m out r q after left t u = (
  ap₂ (λ (a : Answer) (n : ℕ). record { answer = a; length = n }) (t.answer_is ∙ sym u.answer_is) (t.length_is ∙ sym u.length_is),
  t.written ∙ sym u.written,
)

-- AT THE BOARD: the verdict, every place and every byte lent

-- a strip put into a slot
pub puts_one : (f : Firm) (slot : ℕ) (s : Standing) (ps : List Place) (bytes : List ℕ)
    → Determines (Board × List ℕ) (λ r. PutsIn f slot s ps bytes r.0.places r.1)
puts_one f slot s ps bytes x y p q =
    ap₂ (λ (places : List Place) (after : List ℕ). (record { places = places }, after)) (p.places_are ∙ sym q.places_are)
    (p.bytes_are ∙ sym q.bytes_are)

-- `board::file` and `board::update`
pub turn_one : (c : Call (List ℕ)) (ps : List Place) (bytes : List ℕ) → Determines (Turn × List ℕ) (λ r. Turned c ps bytes r.0 r.1)
turn_one c ps bytes x y k l =
    let e = turned_one c ps bytes x.0 y.0 x.1 y.1 k l in
    ap₂ (λ (t : Turn) (after : List ℕ). (t, after)) e.0 e.1

-- `board::clear`, which goes by no byte and changes none
pub clear_one : (firm slot : ℕ) (ps : List Place) → Determines Turn (Clearing firm slot ps)
clear_one firm slot ps x y k l = (turned_one (clearing firm slot) ps [] x y [] [] (k []) (l [])).0
