-- What is written of field 19: the canonical record is valid, its own canonical record, and spelled no longer. Assumes nothing.
use Prim.Native.Nat.{ℕ, ◌≤◌}
use mathlib.Core.Path.{◌≡◌, refl, ap, ap₂, ◌∙◌}
use mathlib.Core.Bool.{true, cond, not}
use mathlib.Core.List.{List, [], ◌∷◌, ◌++◌}
use mathlib.Core.Option.{none, some}
use native.Mathlib.Omega.{arith}
use lib.ListN.{length, length-append}
use Rattle.text.specs.Words.{Word, join, all, null}
use Rattle.text.proofs.Tests.{both, and_both}
use Rattle.shape.specs.Field.{Laws}
use Rattle.shape.proofs.Fields.{Facts, laws}
use Rattle.supplement.specs.Field19.{Count, Part, endurance, persons, radio, survival, jackets, dinghies, aircraft, remarks, pilot, Field19, key_of}
use Rattle.supplement.specs.Field19.{spell_key, place, valid_count, persons_digits, number_digits, capacity_digits, some_of, radio_letters, survival_letters}
use Rattle.supplement.specs.Field19.{light_letters, jacket_radio_letters, cover, valid_pair, words_of, valid_part, in_order, valid19, opened, spelt, spell19}
use Rattle.canonical.specs.Canonical.{canonical_part, canonical19, field19}
use Rattle.canonical.proofs.Orders.{sorted_settled, sorted_some, sorted_shorter}
use Rattle.canonical.proofs.Counts.{shortest_valid, shortest_shorter}
use Rattle.supplement.proofs.Exact.{spelled, held, taken, back, tidied}

-- KEPT: a valid part stays valid

pub canonical_key : (p : Part) → key_of (canonical_part p) ≡ key_of p
canonical_key (endurance t) = refl
canonical_key (persons c) = refl
canonical_key (radio w) = refl
canonical_key (survival w) = refl
canonical_key (jackets w o) = refl
canonical_key (dinghies o c ws) = refl
canonical_key (aircraft ws) = refl
canonical_key (remarks ws) = refl
canonical_key (pilot ws) = refl

pair_counts_lem : (p : Count × Count) → valid_pair p ≡ true → (valid_count number_digits p.0 ≡ true) × (valid_count capacity_digits p.1 ≡ true)
pair_counts_lem p v = both (valid_count number_digits p.0) (valid_count capacity_digits p.1) v

part_kept : (p : Part) → valid_part p ≡ true → valid_part (canonical_part p) ≡ true
part_kept (endurance t) v = v
part_kept (persons c) v = shortest_valid persons_digits c v (omega arith)
part_kept (radio w) v = sorted_some radio_letters refl w v
part_kept (survival w) v = sorted_some survival_letters refl w v
part_kept (jackets w none) v = let h = both (some_of light_letters w) true v in and_both _ true (sorted_some light_letters refl w h.0) refl
part_kept (jackets w (some u)) v =
    let h = both (some_of light_letters w) (some_of jacket_radio_letters u) v in
    and_both _ _ (sorted_some light_letters refl w h.0) (sorted_some jacket_radio_letters refl u h.1)
part_kept (dinghies none c ws) v = v
part_kept (dinghies (some p) c ws) v =
    let h = both (valid_pair p) _ v in
    let g = pair_counts_lem p h.0 in
    and_both _ _ (and_both _ _ (shortest_valid number_digits p.0 g.0 (omega arith)) (shortest_valid capacity_digits p.1 g.1 (omega arith))) h.1
part_kept (aircraft ws) v = v
part_kept (remarks ws) v = v
part_kept (pilot ws) v = v

parts_kept : (r : Field19) → all valid_part r ≡ true → all valid_part (canonical19 r) ≡ true
parts_kept [] v = refl
parts_kept (p ∷ ps) v =
    let h = both (valid_part p) (all valid_part ps) v in
    rw (part_kept p h.0) (parts_kept ps h.1)

order_kept : (least : ℕ) (r : Field19) → in_order least (canonical19 r) ≡ in_order least r
order_kept least [] = refl
order_kept least (p ∷ ps) = rw (canonical_key p, order_kept (place (key_of p)) ps)

kept : (r : Field19) → valid19 r ≡ true → valid19 (canonical19 r) ≡ true
unfolding valid19
kept [] v = v
kept (p ∷ ps) v =
    let h = both (in_order 0 (p ∷ ps)) (all valid_part (p ∷ ps)) v in
    and_both _ _ (order_kept 0 (p ∷ ps) ∙ h.0) (parts_kept (p ∷ ps) h.1)

-- SETTLED: a second time changes nothing

part_settled : (p : Part) → canonical_part (canonical_part p) ≡ canonical_part p
part_settled (endurance t) = refl
part_settled (persons c) = refl
part_settled (radio w) = ap radio (sorted_settled radio_letters refl w)
part_settled (survival w) = ap survival (sorted_settled survival_letters refl w)
part_settled (jackets w none) = ap (λ (v : Word). jackets v none) (sorted_settled light_letters refl w)
part_settled (jackets w (some u)) = ap₂ (λ (v x : Word). jackets v (some x)) (sorted_settled light_letters refl w) (sorted_settled jacket_radio_letters refl u)
part_settled (dinghies none c ws) = refl
part_settled (dinghies (some p) c ws) = refl
part_settled (aircraft ws) = refl
part_settled (remarks ws) = refl
part_settled (pilot ws) = refl

settled : (r : Field19) → canonical19 (canonical19 r) ≡ canonical19 r
settled [] = refl
settled (p ∷ ps) = ap₂ (λ (q : Part) (qs : Field19). q ∷ qs) (part_settled p) (settled ps)

-- SHORTER: as many words, none longer

data Shorter : List Word → List Word → Type 0 where
  no_words : Shorter [] []
  one_more_lem : {v w : Word} {vs ws : List Word} → length v ≤ length w → Shorter vs ws → Shorter (v ∷ vs) (w ∷ ws)

as_sent_lem : (ws : List Word) → Shorter ws ws
as_sent_lem [] = no_words
as_sent_lem (w ∷ ws) = let h : length w ≤ length w = omega arith in one_more_lem h (as_sent_lem ws)

shorter_append : {vs ws xs ys : List Word} → Shorter vs ws → Shorter xs ys → Shorter (vs ++ xs) (ws ++ ys)
shorter_append no_words t = t
shorter_append (one_more_lem h s) t = one_more_lem h (shorter_append s t)

between : (k v w : Word) (b : ℕ) → length v ≤ length w → length (k ++ (b ∷ v)) ≤ length (k ++ (b ∷ w))
between k v w b h = rw (length-append k (b ∷ v), length-append k (b ∷ w)) (omega arith)

joined : (v w x y : Word) (b : ℕ) → length v ≤ length w → length x ≤ length y → length (v ++ (b ∷ x)) ≤ length (w ++ (b ∷ y))
joined v w x y b h g = rw (length-append v (b ∷ x), length-append w (b ∷ y)) (omega arith)

shorter_opened : (k : Word) {vs ws : List Word} → Shorter vs ws → Shorter (opened k vs) (opened k ws)
shorter_opened k no_words = no_words
shorter_opened k (one_more_lem {v} {w} h s) = one_more_lem (between k v w 47 h) s

shorter_join : {vs ws : List Word} → Shorter vs ws → length (join 32 vs) ≤ length (join 32 ws)
shorter_join no_words = omega arith
shorter_join (one_more_lem h no_words) = h
shorter_join (one_more_lem {v} {w} h (one_more_lem {v = x} {w = y} {vs = xs} {ws = ys} g s)) =
    joined v w (join 32 (x ∷ xs)) (join 32 (y ∷ ys)) 32 h (shorter_join {vs = x ∷ xs} {ws = y ∷ ys} (one_more_lem g s))

part_shorter : (p : Part) → valid_part p ≡ true → Shorter (words_of (canonical_part p)) (words_of p)
part_shorter (endurance t) v = as_sent_lem (words_of (endurance t))
part_shorter (persons c) v = one_more_lem (shortest_shorter persons_digits c v) no_words
part_shorter (radio w) v = one_more_lem (sorted_shorter radio_letters refl w) no_words
part_shorter (survival w) v = one_more_lem (sorted_shorter survival_letters refl w) no_words
part_shorter (jackets w none) v = one_more_lem (sorted_shorter light_letters refl w) no_words
part_shorter (jackets w (some u)) v = one_more_lem (sorted_shorter light_letters refl w) (one_more_lem (sorted_shorter jacket_radio_letters refl u) no_words)
part_shorter (dinghies none c ws) v = as_sent_lem (words_of (dinghies none c ws))
part_shorter (dinghies (some p) c ws) v =
    let g = pair_counts_lem p (both (valid_pair p) _ v).0 in
    one_more_lem (shortest_shorter number_digits p.0 g.0)
    (one_more_lem (shortest_shorter capacity_digits p.1 g.1) (as_sent_lem (cond c (cover ∷ []) [] ++ ws)))
part_shorter (aircraft ws) v = as_sent_lem ws
part_shorter (remarks ws) v = as_sent_lem ws
part_shorter (pilot ws) v = as_sent_lem ws

spelt_shorter : (r : Field19) → all valid_part r ≡ true → Shorter (spelt (canonical19 r)) (spelt r)
spelt_shorter [] v = no_words
spelt_shorter (p ∷ ps) v =
    let h = both (valid_part p) (all valid_part ps) v in
    rw (canonical_key p) (shorter_append (shorter_opened (spell_key (key_of p)) (part_shorter p h.0)) (spelt_shorter ps h.1))

shorter : (r : Field19) → valid19 r ≡ true → length (spell19 (canonical19 r)) ≤ length (spell19 r)
unfolding valid19 spell19
shorter r v = shorter_join (spelt_shorter r (both (in_order 0 r) (all valid_part r) (both (not (null r)) _ v).1).1)

-- THE LAWS of field 19

facts : Facts field19
facts = record { spelled = spelled; held = held; taken = taken; back = back; tidied = tidied }

pub field19_laws : Laws field19
field19_laws = laws field19 facts kept settled shorter
