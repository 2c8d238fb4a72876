-- The walk to a field and over a CHG's entries, hyphen by hyphen, and what is found there. Assumes nothing.
use Prim.Native.Nat.{ℕ, zero, suc, ◌+◌, ◌-◌, ◌<◌, ◌≤◌}
use mathlib.Core.Path.{◌≡◌, refl, sym, ap, subst, ◌∙◌}
use mathlib.Core.Bool.{Bool, true, false}
use mathlib.Core.List.{List, [], ◌∷◌}
use mathlib.Core.Option.{Option, some}
use mathlib.Core.Option
use native.Mathlib.Omega.{arith}
use lib.Dec.{ltb, eqb}
use lib.ListN.{length, take, drop, length-drop}
use lib.Seq.{take-nil, drop-drop, length-take-le}
use borrow.Author.Tests.{eq-eqb, ne_eqb, ltb-true, ltb-false}
use Rattle.std.specs.Prelude.{Some, None}
use Rattle.std.specs.Prelude as rust
use Rattle.text.specs.Words.{Word, split, up_to, after, before, behind}
use Rattle.text.specs.Places.{Stepped}
use Rattle.text.proofs.Index.{split_at, after_here, after_end, piece, stepped, rest}
use Rattle.dates.proofs.Pieces.{ends, piece_is, more_left, none_left}
use Rattle.space.specs.Hyphens.{behind_hyphen}
use Rattle.message.proofs.Nth.{cut_at, field_at_lem}
use Rattle.kinds.specs.Kinds.{first_entry}
use Rattle.forms.specs.Field22.{labels, which_of}
use Rattle.force.specs.declared.Span.{Span}
use Rattle.force.specs.InForce.{entries_of, lookup, lookup_at, named_by, named_at, field_at, in_force, place_of, FoundIn}

-- TO A FIELD

pub place_at : (j at : ℕ) (s : List ℕ) → at ≤ length s → drop at s ≡ behind_hyphen j s → at ≡ place_of s j
place_at j at s h d = omega (arith, ap length d, length-drop at s)

-- OVER THE ENTRIES

module _ (k : ℕ) (some-rank : 0 < k) where
  no_entry : eqb (which_of []) k ≡ false
  unfolding labels
  no_entry = ne_eqb 0 k (λ e. omega arith)

  contents_alike : lookup k [] ≡ lookup k ([] ∷ [])
  contents_alike = rw no_entry

  places_alike : (at : ℕ) → lookup_at k at [] ≡ lookup_at k at ([] ∷ [])
  places_alike at = rw no_entry

-- at the entry at `at`: what is found from here on is what is found from the first on
pub record Seeking (chg : List ℕ) (k at : ℕ) : Type 0 where
  pub inside : at ≤ length chg
  pub content : lookup k (split 45 (drop at chg)) ≡ lookup k (entries_of chg)
  pub place : lookup_at k at (split 45 (drop at chg)) ≡ lookup_at k (place_of chg first_entry) (entries_of chg)

pub seeking_starts : {chg : List ℕ} {k at : ℕ} → 0 < k → at ≤ length chg → drop at chg ≡ behind_hyphen first_entry chg → Seeking chg k at
seeking_starts {chg} {k} {at} h l d =
    record {
      inside = l;
      content = ap (λ (t : List ℕ). lookup k (split 45 t)) d ∙ sym (cut_at (lookup k) (contents_alike k h) first_entry chg);
      place =
          ap (λ (t : List ℕ). lookup_at k at (split 45 t)) d ∙ sym (cut_at (lookup_at k at) (places_alike k h at) first_entry chg)
          ∙ ap (λ (i : ℕ). lookup_at k i (entries_of chg)) (place_at first_entry at chg l d);
    }

pub drop-take : (b n : ℕ) (l : List ℕ) → b ≤ n → drop b (take n l) ≡ take (n - b) (drop b l)
drop-take zero n l h = let z : n ≡ n - 0 = omega arith in ap (λ (i : ℕ). take i l) z
drop-take (suc b) zero l h = absurd (omega arith)
drop-take (suc b) (suc n) [] h = sym (take-nil (suc n - suc b))
drop-take (suc b) (suc n) (x ∷ l) h =
    let z : n - b ≡ suc n - suc b = omega arith in
    drop-take b n l (omega arith) ∙ ap (λ (i : ℕ). take i (drop b l)) z

module _ {chg : List ℕ} {k at e : ℕ} (some-rank : 0 < k) (w : Seeking chg k at) (end : e ≡ at + up_to 45 (drop at chg)) (last : e ≤ length chg) where
  abbrev entry : Word
  entry = take (e - at) (drop at chg)

  long : at ≤ e → length (take (e - at) (drop at chg)) ≡ e - at
  long h = length-take-le (e - at) (drop at chg) (omega (arith, length-drop at chg))

  unnamed : eqb k 0 ≡ false
  unnamed = ne_eqb k 0 (λ z. omega arith)

  -- it names the field; b is the place behind its oblique
  module _ {r b : ℕ} (is-rank : r ≡ which_of (take (e - at) (drop at chg))) (here : r ≡ k) (step : Stepped 47 (take (e - at) (drop at chg)) 0 b) where
    named_here : which_of (take (e - at) (drop at chg)) ≡ k
    named_here = sym is-rank ∙ here

    from_here : at ≤ e
    from_here = omega arith

    short : b ≤ e - at
    short = omega (arith, step.inside, long from_here)

    content_is : behind 47 (take (e - at) (drop at chg)) ≡ take (e - (at + b)) (drop (at + b) chg)
    content_is =
        let z : e - at - b ≡ e - (at + b) = omega arith in
        sym step.over ∙ drop-take b (e - at) (drop at chg) short ∙ ap (λ (i : ℕ). take i (drop b (drop at chg))) z
        ∙ ap (take (e - (at + b))) (drop-drop b at chg)

    place_is : at + (length (take (e - at) (drop at chg)) - length (behind 47 (take (e - at) (drop at chg)))) ≡ at + b
    place_is = omega (arith, step.inside, ap length step.over, length-drop b (take (e - at) (drop at chg)))

    pub found_here : FoundIn chg k (Some (record { from = at + b; to = e }))
    unfolding named_by named_at
    found_here = (
      omega (arith, short),
      last,
      rw unnamed (sym w.content ∙ rw (split_at 45 chg at e end, eq-eqb _ k named_here) (ap some content_is)),
      rw unnamed (sym w.place ∙ rw (split_at 45 chg at e end, eq-eqb _ k named_here) (ap some place_is)),
    )

  module _ {r : ℕ} (is-rank : r ≡ which_of (take (e - at) (drop at chg))) (other : r ≡ k → ⊥) where
    not_here : eqb (which_of (take (e - at) (drop at chg))) k ≡ false
    not_here = ne_eqb (which_of (take (e - at) (drop at chg))) k (λ z. other (is-rank ∙ z))

    pub found_nowhere : length chg ≤ e → FoundIn chg k None
    unfolding named_by named_at
    found_nowhere h = (
      rw unnamed (sym w.content ∙ rw (split_at 45 chg at e end, not_here, after_end 45 chg e h)),
      rw unnamed (sym w.place ∙ rw (split_at 45 chg at e end, not_here, after_end 45 chg e h)),
    )

    pub found_later : {next : ℕ} → e < length chg → Stepped 45 chg at next → Seeking chg k next
    found_later {next} h step =
        let z : e + 1 ≡ at + suc (up_to 45 (drop at chg)) = omega arith in
        let over : drop next chg ≡ drop (e + 1) chg
        = step.over ∙ drop-drop (suc (up_to 45 (drop at chg))) at chg ∙ ap (λ (i : ℕ). drop i chg) (sym z) in
        let there : next ≡ e + 1 = omega (arith, ap length over, length-drop next chg, length-drop (e + 1) chg, step.inside) in
        let on : at + suc (length (take (e - at) (drop at chg))) ≡ next = omega (arith, long (omega arith)) in
        record {
          inside = step.inside;
          content = ap (λ (t : List ℕ). lookup k (split 45 t)) over ∙ sym (rw (split_at 45 chg at e end, not_here, after_here 45 chg e h)) ∙ w.content;
          place =
              ap (λ (t : List ℕ). lookup_at k next (split 45 t)) over
              ∙ ap (λ (i : ℕ). lookup_at k i (split 45 (drop (e + 1) chg))) (sym on)
              ∙ sym (rw (split_at 45 chg at e end, not_here, after_here 45 chg e h)) ∙ w.place;
        }

-- WHAT THE ITERATOR GIVES: the piece that ends at e, where the next hyphen stands or the text ends; those behind it are left

module _ (text : List ℕ) (e : ℕ) (end : e ≡ 0 + up_to 45 (drop 0 text)) where
  first : split 45 text ≡ take e text ∷ after 45 (drop e text)
  first = let z : e - 0 ≡ e = omega arith in split_at 45 text 0 e end ∙ ap (λ (n : ℕ). take n text ∷ after 45 (drop e text)) z

  pub first_of_more : e < length text → split 45 text ≡ take e text ∷ split 45 (take (length text - (e + 1)) (drop (e + 1) text))
  first_of_more h =
      first ∙ ap (λ (ws : List Word). take e text ∷ ws) (after_here 45 text e h)
      ∙ ap (λ (t : List ℕ). take e text ∷ split 45 t) (sym (rest text (e + 1)))

  pub first_alone : length text ≤ e → split 45 text ≡ take e text ∷ []
  first_alone h = first ∙ ap (λ (ws : List Word). take e text ∷ ws) (after_end 45 text e h)

-- ENTRY BY ENTRY: `ws` are the entries that are left, of which the first begins at `at`

pub record Turn (chg : List ℕ) (k at : ℕ) (ws : List Word) : Type 0 where
  pub more : 0 < length ws → (ws ≡ split 45 (drop at chg)) × Seeking chg k at
  pub none : ws ≡ [] → FoundIn chg k None

some_pieces : (s : List ℕ) → 0 < length (split 45 s)
some_pieces s = omega (arith, ap length (split_at 45 s 0 (0 + up_to 45 s) refl))

-- what begins at `at` is lent whole
pub turn_first : {chg : List ℕ} {k at : ℕ} → 0 < k → at ≤ length chg → drop at chg ≡ behind_hyphen first_entry chg
    → Turn chg k at (split 45 (take (length chg - at) (drop at chg)))
turn_first {chg} {k} {at} h l d =
    let whole = ap (split 45) (rest chg at) in
    record {
      more = λ m. (whole, seeking_starts h l d);
      none = λ z. absurd (omega (arith, some_pieces (take (length chg - at) (drop at chg)), ap length z));
    }

module _ {chg : List ℕ} {k at : ℕ} {ws : List Word} (some-rank : 0 < k) (t : Turn chg k at ws) (w : Word) (vs : List Word) (cut : ws ≡ w ∷ vs) where
  now : (ws ≡ split 45 (drop at chg)) × Seeking chg k at
  now = t.more (omega (arith, ap length cut))

  seeking : Seeking chg k at
  seeking = now.1

  left : w ∷ vs ≡ split 45 (drop at chg)
  left = sym cut ∙ now.0

  turn : (0 < length (w ∷ vs)) × (w ≡ w)
  turn = (omega arith, refl)

  end : (at + length w ≡ at + up_to 45 (drop at chg)) × (at + length w ≤ length chg)
  end = ends 45 chg (w ∷ vs) 0 at seeking.inside left w turn

  entry_is : w ≡ take (at + length w - at) (drop at chg)
  entry_is = piece_is 45 chg (w ∷ vs) 0 at seeking.inside left w turn

  module _ {r : ℕ} (is-rank : r ≡ which_of w) where
    rank_is : r ≡ which_of (take (at + length w - at) (drop at chg))
    rank_is = is-rank ∙ ap which_of entry_is

    pub turn_found : {b : ℕ} → r ≡ k → Stepped 47 w 0 b → FoundIn chg k (Some (record { from = at + b; to = at + length w }))
    turn_found {b} h step =
        found_here some-rank seeking end.0 end.1 rank_is h (subst (λ (v : Word). Stepped 47 v 0 b) entry_is step)

    pub turn_next : (r ≡ k → ⊥) → Turn chg k (at + length w + 1) vs
    turn_next other = go (ltb (at + length w) (length chg)) refl
      where
        go : (x : Bool) → ltb (at + length w) (length chg) ≡ x → Turn chg k (at + length w + 1) vs
        go true x =
            let l = ltb-true _ _ x in
            let behind = more_left 45 chg (w ∷ vs) 0 at seeking.inside left w turn l in
            record {
              more = λ h. (behind, found_later some-rank seeking end.0 end.1 rank_is other l (stepped 45 chg at (at + length w) end.0 seeking.inside l));
              none = λ z. absurd (omega (arith, some_pieces (drop (at + length w + 1) chg), ap length behind, ap length z));
            }
        go false x =
            let l = ltb-false _ _ x in
            let behind = none_left 45 chg (w ∷ vs) 0 at seeking.inside left w turn l in
            record {
              more = λ h. absurd (omega (arith, ap length behind));
              none = λ z. found_nowhere some-rank seeking end.0 end.1 rank_is other l;
            }

-- no entry names the field of rank 0
pub none_named : (chg : List ℕ) (k : ℕ) → k ≡ 0 → FoundIn chg k None
unfolding named_by named_at
none_named chg k z = (rw (eq-eqb k 0 z), rw (eq-eqb k 0 z))

-- THE FIELD IN FORCE

pub as_found : (chg : List ℕ) (k : ℕ) {r f : rust.Option Span} → FoundIn chg k r → r ≡ f → FoundIn chg k f
as_found chg k h e = subst (FoundIn chg k) e h

module _ (plan chg : List ℕ) (k : ℕ) where
  pub in_chg : (s : Span) → FoundIn chg k (Some s) → take (s.to - s.from) (drop s.from chg) ≡ in_force plan chg k
  in_chg s h = sym (ap (λ (o : Option Word). Option.get_or o (field_at plan k)) h.2)

  pub in_plan : (at e : ℕ) → FoundIn chg k None → drop at plan ≡ behind_hyphen k plan → e ≡ at + up_to 45 (drop at plan)
      → take (e - at) (drop at plan) ≡ in_force plan chg k
  in_plan at e h d end =
      piece 45 plan at e end ∙ ap (before 45) d ∙ sym (field_at_lem k plan) ∙ sym (ap (λ (o : Option Word). Option.get_or o (field_at plan k)) h.0)
