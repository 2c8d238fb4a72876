-- The amended plan as it stands in a scratch: it takes no more room than strip and message together, and its text is cut into its fields again.
-- Assumes nothing.
use Prim.Native.Nat.{ℕ, zero, suc, ◌+◌, ◌≤◌}
use mathlib.Core.Path.{◌≡◌, refl, sym, ap, ◌∙◌}
use mathlib.Core.Bool.{Bool, true, false, cond, not}
use mathlib.Core.List.{List, [], ◌∷◌, ◌++◌}
use mathlib.Core.Option
use mathlib.Core.Option.{Option, none, some}
use native.Mathlib.Omega.{arith}
use lib.Dec.{eqb}
use lib.ListN.{length, take, drop, get_or, length-append, length-take, length-drop}
use borrow.Author.Tests.{eq-eqb, ne_eqb, eqb-true, eqb-false}
use Rattle.text.specs.Words.{Word, split, join, up_to, all, free}
use Rattle.text.proofs.Tests.{both, and_both, all_append, all_drop}
use Rattle.text.proofs.Joined.{join-split}
use Rattle.space.specs.Fields.{inner}
use Rattle.space.proofs.Frame.{frame_inner}
use Rattle.kinds.specs.declared.Role.{Role}
use Rattle.kinds.specs.declared.Role.TheVariants.{Files, Changes, Delays, Cancels, Departs, Arrives, Neither}
use Rattle.kinds.specs.Kinds.{brief13, brief18, first_entry}
use Rattle.forms.specs.Field22.{which_of}
use Rattle.force.specs.InForce.{entries_of, lookup, named_by, field_at, bare, changed_by, fields_from}
use Rattle.force.proofs.Laws.{fields_are, field_free, changed_free, nine_cut}
use Rattle.dates.specs.Dates.{date_in}
use Rattle.amending.specs.Amended.{dated_by, content_of, amended, new_strip}
use Rattle.amending.proofs.Dated.{added, dated_long, added_room, dated_free}

-- SUMS over n places from j on

abbrev sum_from : (ℕ → ℕ) → ℕ → ℕ → ℕ
sum_from f j zero = 0
sum_from f j (suc n) = f j + sum_from f (suc j) n

sum_least : (f g : ℕ → ℕ) (j n : ℕ) → ((k : ℕ) → j ≤ k → f k ≤ g k) → sum_from f j n ≤ sum_from g j n
sum_least f g j zero h = omega arith
sum_least f g j (suc n) h = omega (arith, h j (omega arith), sum_least f g (suc j) n (λ k l. h k (omega arith)))

sum_plus : (f g : ℕ → ℕ) (j n : ℕ) → sum_from (λ k. f k + g k) j n ≡ sum_from f j n + sum_from g j n
sum_plus f g j zero = refl
sum_plus f g j (suc n) = omega (arith, sum_plus f g (suc j) n)

sum_none : (j n : ℕ) → sum_from (λ k. 0) j n ≡ 0
sum_none j zero = refl
sum_none j (suc n) = omega (arith, sum_none (suc j) n)

-- where one place alone has more, by d at most
sum_one : (x y : ℕ → ℕ) (r d : ℕ) → y r ≤ x r + d → ((k : ℕ) → (k ≡ r → ⊥) → y k ≤ x k) → (j n : ℕ) → sum_from y j n ≤ sum_from x j n + d
sum_one x y r d here others j zero = omega arith
sum_one x y r d here others j (suc n) = go (sum_one x y r d here others (suc j) n) (eqb j r) refl
  where
    go : sum_from y (suc j) n ≤ sum_from x (suc j) n + d → (b : Bool) → eqb j r ≡ b → y j + sum_from y (suc j) n ≤ x j + sum_from x (suc j) n + d
    go ih true e =
        let z : r ≡ j = sym (eqb-true j r e) in
        let first : y j ≤ x j + d = rw z at here in
        omega (arith, sum_least y x (suc j) n (λ k l. others k (λ q. omega arith)))
    go ih false e = omega (arith, others j (eqb-false j r e))

-- two places alone, of nine
sum_two : (a b : ℕ) → sum_from (λ k. cond (eqb k 5) a (cond (eqb k 8) b 0)) 0 9 ≡ a + b
sum_two a b = omega arith

-- HOW LONG FIELDS ARE, joined

fields_long : (f : ℕ → Word) (j n : ℕ) → length (join 45 (fields_from f j (suc n))) + 1 ≡ sum_from (λ k. suc (length (f k))) j (suc n)
fields_long f j zero = omega arith
fields_long f j (suc n) =
    omega (arith, length-append (f j) (45 ∷ join 45 (fields_from f (suc j) (suc n))), fields_long f (suc j) n)

-- a plan's nine are all of it
own_long : (plan : List ℕ) → length (split 45 plan) ≡ 9 → sum_from (λ k. suc (length (field_at plan k))) 0 9 ≡ length plan + 1
own_long plan nine =
    let whole : join 45 (fields_from (field_at plan) 0 9) ≡ plan
    = ap (join 45) (fields_are (split 45 plan) 0 9 (sym nine)) ∙ join-split 45 plan in
    sym (fields_long (field_at plan) 0 8) ∙ ap (λ (s : List ℕ). length s + 1) whole

-- WHAT A MESSAGE ADDS: no more than it has bytes

abbrev total : List Word → ℕ
total [] = 0
total (w ∷ ws) = length w + total ws

total_joined : (ws : List Word) → total ws ≤ length (join 45 ws)
total_joined [] = omega arith
total_joined (w ∷ []) = omega arith
total_joined (w ∷ (v ∷ ws)) = omega (arith, length-append w (45 ∷ join 45 (v ∷ ws)), total_joined (v ∷ ws))

total_behind : (i : ℕ) (ws : List Word) → total (drop i ws) ≤ total ws
total_behind zero ws = omega arith
total_behind (suc i) [] = omega arith
total_behind (suc i) (w ∷ ws) = omega (arith, total_behind i ws)

total_fields : (i : ℕ) (s : List ℕ) → total (drop i (split 45 s)) ≤ length s
total_fields i s = omega (arith, total_behind i (split 45 s), total_joined (split 45 s), ap length (join-split 45 s))

field_total : (ws : List Word) (j : ℕ) → length (get_or ws j []) ≤ total ws
field_total [] j = omega arith
field_total (w ∷ ws) zero = omega arith
field_total (w ∷ ws) (suc j) = omega (arith, field_total ws j)

-- each entry's content is looked up for one field alone
entries_sum : (es : List Word) (j n : ℕ) → sum_from (λ k. length (Option.get_or (lookup k es) [])) j n ≤ total es
entries_sum [] j n = omega (arith, sum_none j n)
entries_sum (e ∷ es) j n =
    omega (arith, sum_one (λ k. length (Option.get_or (lookup k es) [])) found (which_of e) (length e) here others j n, entries_sum es j n)
  where
    found : ℕ → ℕ
    found k = length (Option.get_or (lookup k (e ∷ es)) [])

    here : found (which_of e) ≤ length (Option.get_or (lookup (which_of e) es) []) + length e
    here = rw (eq-eqb (which_of e) (which_of e) refl) (omega (arith, length-drop (suc (up_to 47 e)) e))

    others : (k : ℕ) → (k ≡ which_of e → ⊥) → found k ≤ length (Option.get_or (lookup k es) [])
    others k h = rw (ne_eqb (which_of e) k (λ z. h (sym z))) (omega arith)

named_less : (said : List ℕ) (k : ℕ) → length (Option.get_or (named_by said k) []) ≤ length (Option.get_or (lookup k (entries_of said)) [])
unfolding named_by
named_less said k = go (eqb k 0)
  where
    go : (b : Bool) → length (Option.get_or (cond b none (lookup k (entries_of said))) []) ≤ length (Option.get_or (lookup k (entries_of said)) [])
    go true = omega arith
    go false = omega arith

named_sum : (said : List ℕ) → sum_from (λ k. length (Option.get_or (named_by said k) [])) 0 9 ≤ length said
named_sum said =
    omega (
      arith,
      sum_least (λ k. length (Option.get_or (named_by said k) [])) (λ k. length (Option.get_or (lookup k (entries_of said)) [])) 0 9 (λ k l. named_less said k),
      entries_sum (entries_of said) 0 9,
      total_fields first_entry said,
    )

-- what an entry makes of a field is no longer than the two together
either_long : (k : ℕ) (o : Option Word) (own : Word) → suc (length (changed_by k o own)) ≤ suc (length own) + length (Option.get_or o [])
either_long k none own = omega arith
either_long k (some w) own = go (bare k w)
  where
    go : (b : Bool) → suc (length (cond b (w ++ drop 4 own) w)) ≤ suc (length own) + length w
    go true = omega (arith, length-append w (drop 4 own), length-drop 4 own)
    go false = omega arith

module _ (plan said : List ℕ) where
  abbrev own : ℕ → ℕ
  own k = suc (length (field_at plan k))

  abbrev new : Role → ℕ → ℕ
  new role k = suc (length (content_of role plan said k))

  changed_sum : sum_from (new Changes) 0 9 ≤ sum_from own 0 9 + length said
  changed_sum =
      omega (
        arith,
        sum_least (new Changes) (λ k. own k + length (Option.get_or (named_by said k) [])) 0 9 (λ k l. either_long k (named_by said k) (field_at plan k)),
        sum_plus own (λ k. length (Option.get_or (named_by said k) [])) 0 9,
        named_sum said,
      )

  -- a DLA adds in 13 no more than its own 13 has, and in 18 no more than `added`
  delayed_sum : sum_from (new Delays) 0 9 ≤ sum_from own 0 9 + length said
  delayed_sum =
      omega (
        arith,
        sum_least (new Delays) (λ k. own k + extra k) 0 9 (λ k l. each k),
        sum_plus own extra 0 9,
        sum_two (length thirteen) (added eighteen),
        added_room said (omega (arith, field_total (split 45 said) brief13, total_fields 0 said)),
      )
    where
      thirteen : Word
      thirteen = field_at said brief13

      eighteen : Word
      eighteen = field_at said brief18

      extra : ℕ → ℕ
      extra k = cond (eqb k 5) (length thirteen) (cond (eqb k 8) (added eighteen) 0)

      each : (k : ℕ) → new Delays k ≤ own k + extra k
      each k = go (eqb k 5) (eqb k 8)
        where
          a : Word
          a = field_at plan k

          go : (x y : Bool) → suc (length (cond x (take 4 a ++ drop 4 thirteen) (cond y (dated_by (date_in eighteen) a) a)))
              ≤ suc (length a) + cond x (length thirteen) (cond y (added eighteen) 0)
          go true y = omega (arith, length-append (take 4 a) (drop 4 thirteen), length-take 4 a, length-drop 4 thirteen)
          go false true = omega (arith, dated_long a eighteen)
          go false false = omega arith

  new_sum : (role : Role) → sum_from (new role) 0 9 ≤ sum_from own 0 9 + length said
  new_sum Changes = changed_sum
  new_sum Delays = delayed_sum
  new_sum Cancels = omega arith
  new_sum Departs = omega arith
  new_sum Arrives = omega arith
  new_sum Files = omega arith
  new_sum Neither = omega arith

  -- a strip is its plan's text and two parentheses, and so is a message
  pub new_room : (role : Role) → length (split 45 plan) ≡ 9 → length (new_strip role plan said) ≤ length plan + length said + 2
  unfolding new_strip
  new_room role nine =
      omega (
        arith,
        length-append (join 45 (amended role plan said)) (41 ∷ []),
        fields_long (content_of role plan said) 0 8,
        new_sum role,
        own_long plan nine,
      )

  pub new_two : (role : Role) → 2 ≤ length (new_strip role plan said)
  unfolding new_strip
  new_two role = omega (arith, length-append (join 45 (amended role plan said)) (41 ∷ []))

  -- ITS TEXT is cut into its fields again: no content has a hyphen

  all_take : (p : ℕ → Bool) (n : ℕ) (w : Word) → all p w ≡ true → all p (take n w) ≡ true
  all_take p zero w e = refl
  all_take p (suc n) [] e = refl
  all_take p (suc n) (x ∷ w) e = let h = both (p x) (all p w) e in and_both (p x) (all p (take n w)) h.0 (all_take p n w h.1)

  content_free : (role : Role) (k : ℕ) → free 45 (content_of role plan said k) ≡ true
  content_free Changes k = changed_free plan said k
  content_free Delays k = go (eqb k 5) (eqb k 8)
    where
      go : (a b : Bool)
          → free 45 (cond a (take 4 (field_at plan k) ++ drop 4 (field_at said brief13))
          (cond b (dated_by (date_in (field_at said brief18)) (field_at plan k)) (field_at plan k))) ≡ true
      go true b =
          all_append (λ b. not (eqb b 45)) (take 4 (field_at plan k)) (drop 4 (field_at said brief13))
          (all_take (λ b. not (eqb b 45)) 4 (field_at plan k) (field_free plan k))
          (all_drop (λ b. not (eqb b 45)) 4 (field_at said brief13) (field_free said brief13))
      go false true = dated_free (field_at plan k) (field_at said brief18) (field_free plan k) (field_free said brief18)
      go false false = field_free plan k
  content_free Cancels k = field_free plan k
  content_free Departs k = field_free plan k
  content_free Arrives k = field_free plan k
  content_free Files k = field_free plan k
  content_free Neither k = field_free plan k

  pub new_cut : (role : Role) → split 45 (inner (new_strip role plan said)) ≡ amended role plan said
  unfolding new_strip
  new_cut role = ap (split 45) (frame_inner (join 45 (amended role plan said))) ∙ nine_cut (content_of role plan said) (content_free role)
