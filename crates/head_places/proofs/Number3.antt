-- The place of field 3 is right. Assumes nothing.
use Prim.Native.Nat.{ℕ, ◌+◌, ◌-◌, ◌<◌, ◌≤◌}
use mathlib.Core.Path.{◌≡◌, refl, sym, ap, ◌∙◌}
use mathlib.Core.Bool.{Bool, true, false, ◌&&◌, ◌||◌, not, beq, false≢true}
use mathlib.Core.List.{List, [], ◌∷◌, ◌++◌, append_assoc, append-nil}
use native.Mathlib.Omega.{arith}
use lib.Dec.{leb, eqb}
use lib.ListN.{length, take, drop, take-append-drop, length-append, length-take}
use lib.Seq.{take-append_seam, drop-append_seam}
use borrow.Author.Tests.{eqb-true}
use Rattle.alphabet.specs.Alphabet.{letter, digit}
use Rattle.text.specs.Words.{Word, all, null, elem, before, behind}
use Rattle.text.proofs.Tests.{both, and_both, all_append, elem-length, null-nil}
use Rattle.text.proofs.Index.{rest}
use Rattle.text.proofs.Joined.{seam, holds_seam, before_seam, behind_seam}
use Rattle.places.specs.Place.{IsPlace}
use Rattle.places.specs.Parts.{first_fits, no_more, run_place, fixed_fits, fixed_place, then_fits}
use Rattle.places.proofs.Given.{iff}
use Rattle.places.proofs.Place.{place_of_language}
use Rattle.places.proofs.Parts.{stops, cut, then_at, then_place_lem}
use Rattle.places.proofs.Leaves.{nil_place, maybe_place, first_place_lem, run_place_lem}
use Rattle.places.proofs.Fixed.{fixed_place_lem}
use Rattle.places.proofs.Cuts.{is}
use Rattle.entries.specs.Entries.{any_of}
use Rattle.entries.proofs.Labels.{labels_place}
use Rattle.head.specs.Runs.{lead}
use Rattle.head.specs.Field3.{types, unit, first, others, serial, receiver, number_fits, numbers_fit, fits3}
use Rattle.head_places.specs.Places.{unit_then, oblique_then, number_then, numbers_place, place3}
use Rattle.head.proofs.Laws.{lead_seam, letter_no_digit}
use Rattle.head.proofs.Field3.{unit_of, number_of_lem}

-- A NUMBER, and what may follow it

module _ (h : List ℕ → Bool) where
  abbrev digits_then : Word → Bool
  digits_then = fixed_fits digit 3 h

  abbrev receiver_then : Word → Bool
  receiver_then = then_fits letter unit digits_then

  abbrev number_then_fits : Word → Bool
  number_then_fits = then_fits letter unit (first_fits (is 47) (λ b. receiver_then))

  no_letter : (b : ℕ) → digit b ≡ true → not (letter b) ≡ true
  no_letter b e = go (letter b) refl
    where
      go : (x : Bool) → letter b ≡ x → not x ≡ true
      go true q = absurd (false≢true (sym (digit_off (digit b) e (letter_no_digit b q))))
        where
          digit_off : (y : Bool) → y ≡ true → not (beq y true) ≡ true → true ≡ false
          digit_off true p r = absurd (false≢true r)
          digit_off false p r = absurd (false≢true p)
      go false q = refl

  digits_stop : (w : Word) → digits_then w ≡ true → stops letter w ≡ true
  digits_stop [] e = refl
  digits_stop (b ∷ w) e = no_letter b (both (digit b) _ e).0

  oblique_stops : (w : Word) → first_fits (is 47) (λ b. receiver_then) w ≡ true → stops letter w ≡ true
  oblique_stops [] e = refl
  oblique_stops (b ∷ w) e = ap (λ (x : ℕ). not (letter x)) (eqb-true b 47 (both (eqb b 47) (receiver_then w) e).0)

  unit_letters : (w : Word) → unit w ≡ true → all letter w ≡ true
  unit_letters w e = (both (leb (length w) 4) (all letter w) (both (leb 1 (length w)) _ e).1).1

  module _ (ph : List ℕ → ℕ) (right : (s : List ℕ) → IsPlace h s (ph s)) (e : List ℕ) (he : h e ≡ true) where
    receiver_right : (s : List ℕ) → IsPlace receiver_then s (unit_then (fixed_place digit 3 ph) s)
    receiver_right =
        then_place_lem letter unit digits_then (run_place 4 letter) (fixed_place digit 3 ph) (run_place_lem 1 4 letter (omega arith) 65 refl)
        (fixed_place_lem digit h ph right e he 48 refl 3) unit_letters digits_stop (48 ∷ 48 ∷ 48 ∷ e) he

    some_receiver : receiver_then (65 ∷ 48 ∷ 48 ∷ 48 ∷ e) ≡ true
    some_receiver = then_at letter unit digits_then (65 ∷ []) (48 ∷ 48 ∷ 48 ∷ e) refl refl ∙ he

    oblique_right : (s : List ℕ) → IsPlace (first_fits (is 47) (λ b. receiver_then)) s (oblique_then (fixed_place digit 3 ph) s)
    oblique_right =
        first_place_lem (is 47) (λ b. receiver_then) (λ b. unit_then (fixed_place digit 3 ph)) (λ b q. receiver_right)
        (λ b q. (65 ∷ 48 ∷ 48 ∷ 48 ∷ e, some_receiver))

    number_right : (s : List ℕ) → IsPlace number_then_fits s (number_then ph s)
    number_right =
        then_place_lem letter unit (first_fits (is 47) (λ b. receiver_then)) (run_place 4 letter) (oblique_then (fixed_place digit 3 ph))
        (run_place_lem 1 4 letter (omega arith) 65 refl) oblique_right
        unit_letters oblique_stops (47 ∷ 65 ∷ 48 ∷ 48 ∷ 48 ∷ e) some_receiver

-- THE PARTS OF A NUMBER, and what stands behind it

record Parts (w : Word) : Type 0 where
  a : Word
  b : Word
  x : ℕ
  y : ℕ
  z : ℕ
  t : Word
  whole : w ≡ a ++ (47 ∷ (b ++ (x ∷ y ∷ z ∷ t)))
  sender : unit a ≡ true
  taker : unit b ≡ true
  dx : digit x ≡ true
  dy : digit y ≡ true
  dz : digit z ≡ true

then_of : (h : List ℕ → Bool) (w : Word) (p : Parts w) → number_then_fits h w ≡ h p.t
then_of h w p =
    ap (number_then_fits h) p.whole
    ∙ then_at letter unit (first_fits (is 47) (λ b. receiver_then h)) p.a (47 ∷ (p.b ++ (p.x ∷ p.y ∷ p.z ∷ p.t))) (unit_letters h p.a p.sender) refl
    ∙ ap (λ (u : Bool). u && receiver_then h (p.b ++ (p.x ∷ p.y ∷ p.z ∷ p.t))) p.sender
    ∙ then_at letter unit (digits_then h) p.b (p.x ∷ p.y ∷ p.z ∷ p.t) (unit_letters h p.b p.taker) (no_letter h p.x p.dx)
    ∙ rw (p.taker, p.dx, p.dy, p.dz)

parts_of_lem : (h : List ℕ → Bool) (w : Word) → number_then_fits h w ≡ true → Parts w
parts_of_lem h w e =
    let c = cut letter w in
    outer c.a c.r c.whole
    (sym (then_at letter unit (first_fits (is 47) (λ b. receiver_then h)) c.a c.r c.inside c.stop) ∙ ap (number_then_fits h) (sym c.whole) ∙ e)
  where
    last : (a b r : Word) → w ≡ a ++ (47 ∷ (b ++ r)) → unit a ≡ true → unit b ≡ true → digits_then h r ≡ true → Parts w
    last a b [] q u v d = absurd (false≢true d)
    last a b (x ∷ []) q u v d = absurd (false≢true (both (digit x) false d).1)
    last a b (x ∷ y ∷ []) q u v d = absurd (false≢true (both (digit y) false (both (digit x) _ d).1).1)
    last a b (x ∷ y ∷ z ∷ t) q u v d =
        let dx = both (digit x) _ d in
        let dy = both (digit y) _ dx.1 in
        record { a = a; b = b; x = x; y = y; z = z; t = t; whole = q; sender = u; taker = v; dx = dx.0; dy = dy.0; dz = (both (digit z) (h t) dy.1).0 }

    outer : (a r : Word) → w ≡ a ++ r → (unit a && first_fits (is 47) (λ b. receiver_then h) r) ≡ true → Parts w
    outer a [] q f = absurd (false≢true (both (unit a) false f).1)
    outer a (s ∷ v) q f =
        let g = both (unit a) (eqb s 47 && receiver_then h v) f in
        let k = both (eqb s 47) (receiver_then h v) g.1 in
        let c = cut letter v in
        let i = sym (then_at letter unit (digits_then h) c.a c.r c.inside c.stop) ∙ ap (receiver_then h) (sym c.whole) ∙ k.1 in
        let m = both (unit c.a) (digits_then h c.r) i in
        last a c.a c.r (q ∙ ap (λ (u : ℕ). a ++ (u ∷ v)) (eqb-true s 47 k.0) ∙ ap (λ (l : Word). a ++ (47 ∷ l)) c.whole) g.0 m.0 m.1

-- the number alone
alone : (w : Word) → Parts w → Word
alone w p = p.a ++ (47 ∷ (p.b ++ (p.x ∷ p.y ∷ p.z ∷ [])))

fits_alone : (w : Word) (p : Parts w) → number_fits (alone w p) ≡ true
unfolding number_fits alone
fits_alone w p =
    let c = (unit_of p.a p.sender).clear in
    let d = p.x ∷ p.y ∷ p.z ∷ [] in
    let f = p.b ++ d in
    let l : length f - 3 ≡ length p.b = omega (arith, length-append p.b d) in
    rw (
      holds_seam 47 p.a f c,
      before_seam 47 p.a f c,
      behind_seam 47 p.a f c,
      l,
      take-append_seam p.b d,
      drop-append_seam p.b d,
      p.sender,
      p.taker,
      p.dx,
      p.dy,
      p.dz,
    )

-- where it ends
module _ (w : Word) (p : Parts w) where
  abbrev run : Word
  run = p.a ++ (47 ∷ p.b)

  apart : w ≡ run ++ (p.x ∷ p.y ∷ p.z ∷ p.t)
  apart = p.whole ∙ sym (append_assoc p.a (47 ∷ p.b) (p.x ∷ p.y ∷ p.z ∷ p.t))

  lead_is : lead false w ≡ length run
  lead_is =
      ap (lead false) apart
      ∙ lead_seam false run (p.x ∷ p.y ∷ p.z ∷ p.t)
      (all_append _ p.a (47 ∷ p.b) (unit_of p.a p.sender).run (unit_of p.b p.taker).run) (rw p.dx)

  spelled : alone w p ≡ run ++ (p.x ∷ p.y ∷ p.z ∷ [])
  unfolding alone
  spelled = sym (append_assoc p.a (47 ∷ p.b) (p.x ∷ p.y ∷ p.z ∷ []))

  long : length (alone w p) ≡ lead false w + 3
  long = ap length spelled ∙ length-append run (p.x ∷ p.y ∷ p.z ∷ []) ∙ ap (λ (n : ℕ). n + 3) (sym lead_is)

  behind_it_lem : w ≡ alone w p ++ p.t
  behind_it_lem = apart ∙ sym (ap (λ (l : Word). l ++ p.t) spelled ∙ append_assoc run (p.x ∷ p.y ∷ p.z ∷ []) p.t)

  first_is : first w ≡ alone w p
  first_is = ap (λ (n : ℕ). take n w) (sym long) ∙ ap (take (length (alone w p))) behind_it_lem ∙ take-append_seam (alone w p) p.t

  others_is : others w ≡ p.t
  others_is = ap (λ (n : ℕ). drop n w) (sym long) ∙ ap (drop (length (alone w p))) behind_it_lem ∙ drop-append_seam (alone w p) p.t

-- a number that fits has parts, and so has what it begins
three : (d : Word) → length d ≡ 3 → (x : ℕ) × (y : ℕ) × (z : ℕ) × (d ≡ x ∷ y ∷ z ∷ [])
three [] e = absurd (omega arith)
three (x ∷ []) e = absurd (omega arith)
three (x ∷ y ∷ []) e = absurd (omega arith)
three (x ∷ y ∷ z ∷ []) e = (x, y, z, refl)
three (x ∷ y ∷ z ∷ u ∷ d) e = absurd (omega arith)

parts_number : (v t : Word) → number_fits v ≡ true → (p : Parts (v ++ t)) × (p.t ≡ t)
parts_number v t e =
    let n = number_of_lem v e in
    let f = behind 47 v in
    let d = three (serial f) n.serial_three in
    let g = both (digit d.0) _ (ap (all digit) (sym d.3) ∙ n.serial_digits) in
    let k = both (digit d.1) _ g.1 in
    let q : f ≡ receiver f ++ (d.0 ∷ d.1 ∷ d.2 ∷ []) = sym (take-append-drop (length f - 3) f) ∙ ap (λ (l : Word). receiver f ++ l) d.3 in
    let u : v ≡ before 47 v ++ (47 ∷ (receiver f ++ (d.0 ∷ d.1 ∷ d.2 ∷ [])))
    = sym (seam 47 v n.oblique) ∙ ap (λ (l : Word). before 47 v ++ (47 ∷ l)) q in (
      record {
        a = before 47 v;
        b = receiver f;
        x = d.0;
        y = d.1;
        z = d.2;
        t = t;
        whole =
            ap (λ (l : Word). l ++ t) u
            ∙ append_assoc (before 47 v) (47 ∷ (receiver f ++ (d.0 ∷ d.1 ∷ d.2 ∷ []))) t
            ∙ ap (λ (l : Word). before 47 v ++ (47 ∷ l)) (append_assoc (receiver f) (d.0 ∷ d.1 ∷ d.2 ∷ []) t);
        sender = n.sender_fits;
        taker = n.receiver_fits;
        dx = g.0;
        dy = k.0;
        dz = (both (digit d.2) true k.1).0;
      },
      refl,
    )

-- THE LANGUAGE

front_is : (h : List ℕ → Bool) (w : Word) → (number_fits (first w) && h (others w)) ≡ number_then_fits h w
front_is h w = iff (number_fits (first w) && h (others w)) (number_then_fits h w) to from
  where
    to : (number_fits (first w) && h (others w)) ≡ true → number_then_fits h w ≡ true
    to e =
        let g = both (number_fits (first w)) (h (others w)) e in
        let p = parts_number (first w) (others w) g.0 in
        ap (number_then_fits h) (sym (take-append-drop (lead false w + 3) w)) ∙ then_of h (first w ++ others w) p.0 ∙ ap h p.1 ∙ g.1

    from : number_then_fits h w ≡ true → (number_fits (first w) && h (others w)) ≡ true
    from e =
        let p = parts_of_lem h w e in
        and_both (number_fits (first w)) (h (others w)) (ap number_fits (first_is w p) ∙ fits_alone w p) (ap h (others_is w p) ∙ sym (then_of h w p) ∙ e)

number_is : (w : Word) → number_fits w ≡ number_then_fits null w
number_is w = iff (number_fits w) (number_then_fits null w) to from
  where
    to : number_fits w ≡ true → number_then_fits null w ≡ true
    to e =
        let p = parts_number w [] e in
        ap (number_then_fits null) (sym (append-nil w)) ∙ then_of null (w ++ []) p.0 ∙ ap null p.1

    from : number_then_fits null w ≡ true → number_fits w ≡ true
    from e =
        let p = parts_of_lem null w e in
        let z : p.t ≡ [] = null-nil p.t (sym (then_of null w p) ∙ e) in
        ap number_fits (behind_it_lem w p ∙ ap (λ (l : Word). alone w p ++ l) z ∙ append-nil (alone w p)) ∙ fits_alone w p

abbrev second : Word → Bool
second v = null v || number_then_fits null v

numbers_is : (w : Word) → (null w || number_then_fits second w) ≡ numbers_fit w
unfolding numbers_fit
numbers_is w =
    ap (λ (x : Bool). null w || x)
    (sym (front_is second w) ∙ ap (λ (x : Bool). number_fits (first w) && (null (others w) || x)) (sym (number_is (others w))))

second_right : (s : List ℕ) → IsPlace second s (number_then no_more s)
second_right s = maybe_place (number_then_fits null) s (number_then no_more s) (number_right null no_more nil_place [] refl s)

numbers_right : (s : List ℕ) → IsPlace numbers_fit s (numbers_place s)
numbers_right s =
    place_of_language (λ w. null w || number_then_fits second w) numbers_fit numbers_is s (numbers_place s)
    (maybe_place (number_then_fits second) s (numbers_place s) (number_right second (number_then no_more) second_right [] refl s))

-- THE TYPES

types_three : all (λ l. eqb (length l) 3) types ≡ true
unfolding types
types_three = refl

none_fit : numbers_fit [] ≡ true
unfolding numbers_fit
none_fit = refl

pub placed3 : (s : List ℕ) → IsPlace fits3 s (place3 s)
unfolding fits3 place3
placed3 = labels_place numbers_fit numbers_place numbers_right [] none_fit 3 types types_three

-- FOR THE CODE

pub number_within : (w : Word) → number_then no_more w ≤ length w
number_within w = (number_right null no_more nil_place [] refl w).within

pub numbers_within : (w : Word) → numbers_place w ≤ length w
numbers_within w = (numbers_right w).within

-- by the first three bytes
pub type_off : (s : List ℕ) → elem (take 3 s) types ≡ false → any_of types s ≡ place3 s
unfolding place3
type_off s e = sym (rw e)

pub type_short : (s : List ℕ) → length s < 3 → any_of types s ≡ place3 s
type_short s h = type_off s (go (elem (take 3 s) types) refl)
  where
    go : (x : Bool) → elem (take 3 s) types ≡ x → x ≡ false
    go true e =
        let m = elem-length 3 types types_three (take 3 s) e in
        let n = length-take 3 s in
        absurd (omega arith)
    go false e = refl

pub type_on : (s : List ℕ) (r : ℕ) → elem (take 3 s) types ≡ true → r ≡ numbers_place (take (length s - 3) (drop 3 s)) → 3 + r ≡ place3 s
unfolding place3
type_on s r e h = sym (rw e (ap (λ (n : ℕ). 3 + n) (sym (h ∙ ap numbers_place (rest s 3)))))
