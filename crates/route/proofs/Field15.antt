-- Field 15: what is proved of its form. Assumes nothing.
use mathlib.Core.Path.{◌≡◌, refl, ap, ap₂, ◌∙◌}
use mathlib.Core.Bool.{Bool, true, ◌&&◌, not, false≢true}
use mathlib.Core.List.{List, [], ◌∷◌, ◌++◌}
use Rattle.text.specs.Words.{Word, split, join, all, null, free, tidy_word, tidy}
use Rattle.text.proofs.Tests.{both, and_both, all_imp}
use Rattle.text.proofs.Joined.{join-split, split-join}
use Rattle.text.proofs.Tidy.{word_free}
use Rattle.shape.specs.Shape.{wides, any}
use Rattle.shape.specs.Field.{Laws}
use Rattle.shape.proofs.Fields.{Facts, plain}
use Rattle.route.specs.Levels.{Speed, StartLevel, valid_speed, valid_start, spell_speed, spell_start, starts, speed_of, past_speed, start_of}
use Rattle.route.specs.Field15.{Element, valid_element, spell_element, element_fits, element_of, Field15, valid_route, valid15, spell_route, spell15}
use Rattle.route.specs.Field15.{route_fits, words_fit, fits15, route_of, record_of, record15, field15}
use Rattle.route.proofs.Levels.{start}
use Rattle.route.proofs.RouteWords.{element, element_tidy, start_tidy}

-- THE ROUTE

null_read : (ws : List Word) → null (route_of ws) ≡ null ws
null_read [] = refl
null_read (w ∷ ws) = refl

null_spelt : (xs : List Element) → null (spell_route xs) ≡ null xs
null_spelt [] = refl
null_spelt (x ∷ xs) = refl

route_spelled : (ws : List Word) → route_fits ws ≡ true → spell_route (route_of ws) ≡ ws
route_spelled [] e = refl
route_spelled (w ∷ ws) e =
    let h = both (element_fits (null ws) w) (route_fits ws) e in
    ap₂ (λ (v : Word) (vs : List Word). v ∷ vs) ((element (null ws)).spelled w h.0) (route_spelled ws h.1)

route_held : (ws : List Word) → route_fits ws ≡ true → valid_route (route_of ws) ≡ true
route_held [] e = refl
route_held (w ∷ ws) e =
    let h = both (element_fits (null ws) w) (route_fits ws) e in
    and_both (valid_element (null (route_of ws)) (element_of w)) (valid_route (route_of ws))
    (ap (λ (b : Bool). valid_element b (element_of w)) (null_read ws) ∙ (element (null ws)).held w h.0)
    (route_held ws h.1)

route_taken : (xs : List Element) → valid_route xs ≡ true → route_fits (spell_route xs) ≡ true
route_taken [] e = refl
route_taken (x ∷ xs) e =
    let h = both (valid_element (null xs) x) (valid_route xs) e in
    and_both (element_fits (null (spell_route xs)) (spell_element x)) (route_fits (spell_route xs))
    (ap (λ (b : Bool). element_fits b (spell_element x)) (null_spelt xs) ∙ (element (null xs)).taken x h.0)
    (route_taken xs h.1)

route_back : (xs : List Element) → valid_route xs ≡ true → route_of (spell_route xs) ≡ xs
route_back [] e = refl
route_back (x ∷ xs) e =
    let h = both (valid_element (null xs) x) (valid_route xs) e in
    ap₂ (λ (y : Element) (ys : List Element). y ∷ ys) ((element (null xs)).back x h.0) (route_back xs h.1)

route_tidy : (ws : List Word) → route_fits ws ≡ true → all tidy_word ws ≡ true
route_tidy [] e = refl
route_tidy (w ∷ ws) e =
    let h = both (element_fits (null ws) w) (route_fits ws) e in
    and_both (tidy_word w) (all tidy_word ws) (element_tidy (null ws) w h.0) (route_tidy ws h.1)

-- THE WORDS OF A CONTENT

abbrev spell_words : Field15 → List Word
spell_words r = (spell_speed r.speed ++ spell_start r.level) ∷ spell_route r.route

words_parts : (w : Word) (ws : List Word) → words_fit (w ∷ ws) ≡ true → (any (wides starts) w ≡ true) × (not (null ws) ≡ true) × (route_fits ws ≡ true)
words_parts w ws e =
    let g = both (any (wides starts) w) (not (null ws) && route_fits ws) e in
    let h = both (not (null ws)) (route_fits ws) g.1 in
    (g.0, h.0, h.1)

words_spelled : (ws : List Word) → words_fit ws ≡ true → spell_words (record_of ws) ≡ ws
words_spelled [] e = absurd (false≢true e)
words_spelled (w ∷ ws) e =
    let h = words_parts w ws e in
    ap₂ (λ (v : Word) (vs : List Word). v ∷ vs) (start.spelled w h.0) (route_spelled ws h.2)

words_held : (ws : List Word) → words_fit ws ≡ true → valid15 (record_of ws) ≡ true
unfolding valid15
words_held [] e = absurd (false≢true e)
words_held (w ∷ ws) e =
    let h = words_parts w ws e in
    and_both (valid_speed (speed_of w) && valid_start (start_of (past_speed w))) (not (null (route_of ws)) && valid_route (route_of ws)) (start.held w h.0)
    (and_both (not (null (route_of ws))) (valid_route (route_of ws)) (ap not (null_read ws) ∙ h.1) (route_held ws h.2))

words_tidy : (ws : List Word) → words_fit ws ≡ true → all tidy_word ws ≡ true
words_tidy [] e = absurd (false≢true e)
words_tidy (w ∷ ws) e =
    let h = words_parts w ws e in
    and_both (tidy_word w) (all tidy_word ws) (start_tidy w h.0) (route_tidy ws h.2)

record Parts (r : Field15) : Type 0 where
  start : (valid_speed r.speed && valid_start r.level) ≡ true
  some : not (null r.route) ≡ true
  route : valid_route r.route ≡ true

valid_parts : (r : Field15) → valid15 r ≡ true → Parts r
unfolding valid15
valid_parts r e =
    let g = both (valid_speed r.speed && valid_start r.level) (not (null r.route) && valid_route r.route) e in
    let h = both (not (null r.route)) (valid_route r.route) g.1 in
    record { start = g.0; some = h.0; route = h.1 }

words_taken : (r : Field15) → valid15 r ≡ true → words_fit (spell_words r) ≡ true
words_taken r e =
    let v = valid_parts r e in
    and_both (any (wides starts) (spell_speed r.speed ++ spell_start r.level)) (not (null (spell_route r.route)) && route_fits (spell_route r.route))
    (start.taken (r.speed, r.level) v.start)
    (and_both (not (null (spell_route r.route))) (route_fits (spell_route r.route))
    (ap not (null_spelt r.route) ∙ v.some) (route_taken r.route v.route))

words_back : (r : Field15) → valid15 r ≡ true → record_of (spell_words r) ≡ r
words_back r e =
    let v = valid_parts r e in
    ap₂ (λ (x : Speed × StartLevel) (xs : List Element). record { speed = x.0; level = x.1; route = xs })
    (start.back (r.speed, r.level) v.start) (route_back r.route v.route)

-- a valid record's spelling is cut into its words
words_cut : (r : Field15) → valid15 r ≡ true → split 32 (spell15 r) ≡ spell_words r
words_cut r e = split-join 32 _ (spell_route r.route) (all_imp tidy_word (free 32) word_free (spell_words r) (words_tidy (spell_words r) (words_taken r e)))

-- THE FORM

facts : Facts field15
unfolding fits15 record15 tidy
facts =
    record {
      spelled = λ s e. ap (join 32) (words_spelled (split 32 s) e) ∙ join-split 32 s;
      held = λ s e. words_held (split 32 s) e;
      taken = λ r e. ap words_fit (words_cut r e) ∙ words_taken r e;
      back = λ r e. ap record_of (words_cut r e) ∙ words_back r e;
      tidied = λ s e. words_tidy (split 32 s) e;
    }

pub field15_laws : Laws field15
field15_laws = plain field15 (λ r. refl) facts
