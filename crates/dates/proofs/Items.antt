-- The item of a date among items: it goes where its word goes among their words, and what fits fits with it. Assumes nothing.
use Prim.Native.Nat.{ℕ, ◌<◌}
use mathlib.Core.Path.{◌≡◌, refl, sym, ap, subst, ◌∙◌}
use mathlib.Core.Bool.{Bool, true, false, cond, not}
use mathlib.Core.List.{List, [], ◌∷◌, ◌++◌}
use native.Mathlib.Omega.{arith}
use lib.Dec.{ltb}
use borrow.Author.Tests.{ltb-true, ne_eqb}
use Rattle.text.specs.Words.{Word, holds, before, behind, all, null, same, elem}
use Rattle.text.proofs.Tests.{same-eq, same_self, of_elem, rank-elem}
use Rattle.text.proofs.Joined.{seam}
use Rattle.other.specs.declared.Rule.{Rule}
use Rattle.other.specs.Rules.{base, rank_in, rule_in, date}
use Rattle.other.specs.Field18.{Worded, spelt, put, group, items_fit, from_key, has, under}
use Rattle.other.proofs.Field18.{spelt_group}
use Rattle.dates.specs.Dates.{dof, dated, keys_behind, placed}
use Rattle.dates.proofs.Dates.{Ruled, Fitting, fit_parts, fit_cons, dated_item, dof_day}

-- WHERE IT GOES

abbrev pub date_item : Word → Worded
date_item d = record { key = dof; first = d; more = [] }

abbrev pub inserted_at : Word → Worded → List Worded → List Worded → List Worded
inserted_at d i is rest =
    cond (same i.key dof) (record { key = dof; first = d; more = i.more } ∷ is) (cond (elem i.key keys_behind) (date_item d ∷ (i ∷ is)) (i ∷ rest))

abbrev pub inserted : Word → List Worded → List Worded
inserted d [] = date_item d ∷ []
inserted d (i ∷ is) = inserted_at d i is (inserted d is)

pub inserted_some : (d : Word) (is : List Worded) → null (inserted d is) ≡ false
inserted_some d [] = refl
inserted_some d (i ∷ is) = go (same i.key dof) (elem i.key keys_behind)
  where
    go : (a b : Bool) → null (cond a (record { key = dof; first = d; more = i.more } ∷ is) (cond b (date_item d ∷ (i ∷ is)) (i ∷ inserted d is))) ≡ false
    go true b = refl
    go false true = refl
    go false false = refl

-- AMONG WORDS

-- the item that a word begins
abbrev pub item_of : Word → List Word → Worded
item_of w ws = record { key = before 47 w; first = behind 47 w; more = (group ws).loose }

plain_word : elem [] keys_behind ≡ false
unfolding keys_behind base
plain_word = refl

pub placed_items : (d : Word) (ws : List Word) → placed (dated d) ws ≡ (group ws).loose ++ spelt (inserted d (group ws).grouped)
placed_items d [] = refl
placed_items d (w ∷ ws) = go (placed_items d ws) (holds 47 w) refl
  where
    choose : placed (dated d) ws ≡ (group ws).loose ++ spelt (inserted d (group ws).grouped) → holds 47 w ≡ true → (a b : Bool)
        → cond a (dated d ∷ ws) (cond b (dated d ∷ (w ∷ ws)) (w ∷ placed (dated d) ws))
        ≡ spelt
        (cond a (record { key = dof; first = d; more = (group ws).loose } ∷ (group ws).grouped)
        (cond b (date_item d ∷ (item_of w ws ∷ (group ws).grouped)) (item_of w ws ∷ inserted d (group ws).grouped)))
    choose ih e true b = ap (λ (t : List Word). dated d ∷ t) (sym (spelt_group ws))
    choose ih e false true = cc (seam 47 w e, spelt_group ws)
    choose ih e false false = cc (seam 47 w e)

    go : placed (dated d) ws ≡ (group ws).loose ++ spelt (inserted d (group ws).grouped) → (b : Bool) → holds 47 w ≡ b
        → placed (dated d) (w ∷ ws) ≡ (put w (group ws)).loose ++ spelt (inserted d (put w (group ws)).grouped)
    go ih true e = rw e (choose ih e (same (before 47 w) dof) (elem (before 47 w) keys_behind))
    go ih false e = rw (e, plain_word) (ap (λ (t : List Word). w ∷ t) ih)

-- ON WHICH SIDE OF DOF a key of the edition stands

pub data Side (key : Word) : Type 0 where
  ahead : rank_in base key < rank_in base dof → same key dof ≡ false → elem key keys_behind ≡ false → Side key
  itself : key ≡ dof → Side key
  further : rank_in base dof < rank_in base key → same key dof ≡ false → elem key keys_behind ≡ true → Side key

abbrev told : Word → Bool
told key =
    cond (same key dof) true
    (cond (elem key keys_behind) (ltb (rank_in base dof) (rank_in base key)) (ltb (rank_in base key) (rank_in base dof)))

all_told : all told base.keys ≡ true
unfolding base keys_behind
all_told = refl

pub side : (key : Word) → 0 < rank_in base key → Side key
side key h =
    go (same key dof) (elem key keys_behind) refl refl
    (of_elem told base.keys all_told key
    (sym (rank-elem 1 key base.keys (omega arith)) ∙ ap not (ne_eqb (rank_in base key) 0 (λ q. omega arith))))
  where
    go : (a b : Bool) → same key dof ≡ a → elem key keys_behind ≡ b
        → cond a true (cond b (ltb (rank_in base dof) (rank_in base key)) (ltb (rank_in base key) (rank_in base dof))) ≡ true → Side key
    go true b p q t = itself (same-eq key dof p)
    go false true p q t = further (ltb-true (rank_in base dof) (rank_in base key) t) p q
    go false false p q t = ahead (ltb-true (rank_in base key) (rank_in base dof) t) p q

pub dof_ranked : 0 < rank_in base dof
unfolding base
dof_ranked = ltb-true 0 (rank_in base dof) refl

pub is_dof : (key : Word) → key ≡ dof → same key dof ≡ true
is_dof key e = ap (λ (k : Word). same k dof) e ∙ same_self dof

-- an item of DOF, among items that fit, has one date
pub one_day : (last : ℕ) (i : Worded) (is : List Worded) → Fitting last i is → i.key ≡ dof
    → (date i.first ≡ true) × (i.more ≡ []) × (last < rank_in base dof) × (items_fit base (rank_in base dof) is ≡ true)
one_day last i is f e =
    let d = dated_item i (subst (λ (r : Rule). Ruled r i) (ap (λ (k : Word). rule_in base (rank_in base k)) e ∙ dof_day) f.ruled) in
    (d.0, d.1, rw e at f.over, rw e at f.tail)

-- WITH A DATE, items that fit fit

module _ (d : Word) (v : date d ≡ true) where
  day_ruled : Ruled (rule_in base (rank_in base dof)) (date_item d)
  day_ruled = rw dof_day (record { first_fits_lem = v; more_fit = refl })

  date_first : (last : ℕ) (is : List Worded) → last < rank_in base dof → items_fit base (rank_in base dof) is ≡ true
      → items_fit base last (date_item d ∷ is) ≡ true
  date_first last is h e = fit_cons last (date_item d) is (record { over = h; ruled = day_ruled; tail = e })

  pub inserted_fits : (last : ℕ) (is : List Worded) → last < rank_in base dof → items_fit base last is ≡ true → items_fit base last (inserted d is) ≡ true
  inserted_fits last [] h e = date_first last [] h refl
  inserted_fits last (i ∷ is) h e =
      let f = fit_parts last i is e in
      go f (inserted_fits (rank_in base i.key) is) (side i.key (omega (arith, f.over)))
    where
      go : Fitting last i is
          → (rank_in base i.key < rank_in base dof → items_fit base (rank_in base i.key) is ≡ true
          → items_fit base (rank_in base i.key) (inserted d is) ≡ true)
          → Side i.key → items_fit base last (inserted d (i ∷ is)) ≡ true
      go f ih (ahead r p q) = rw (p, q) (fit_cons last i (inserted d is) (record { over = f.over; ruled = f.ruled; tail = ih r f.tail }))
      go f ih (itself k) = let o = one_day last i is f k in rw (is_dof i.key k, o.1) (date_first last is h o.3)
      go f ih (further r p q) =
          rw (p, q) (date_first last (i ∷ is) h (fit_cons (rank_in base dof) i is (record { over = r; ruled = f.ruled; tail = f.tail })))

  -- the date is found
  pub inserted_date : (last : ℕ) (is : List Worded) → items_fit base last is ≡ true → under dof (inserted d is) ≡ d
  inserted_date last [] e = refl
  inserted_date last (i ∷ is) e =
      let f = fit_parts last i is e in
      go f (inserted_date (rank_in base i.key) is f.tail) (side i.key (omega (arith, f.over)))
    where
      go : Fitting last i is → under dof (inserted d is) ≡ d → Side i.key → under dof (inserted d (i ∷ is)) ≡ d
      go f ih (ahead r p q) = rw (p, q, p) ih
      go f ih (itself k) = rw (is_dof i.key k, (one_day last i is f k).1)
      go f ih (further r p q) = rw (p, q)

-- other keys are there or not as they were
pub inserted_has : (d key : Word) → same dof key ≡ false → (is : List Worded) → has key (inserted d is) ≡ has key is
inserted_has d key n [] = rw n
inserted_has d key n (i ∷ is) = go (inserted_has d key n is) (same i.key dof) (elem i.key keys_behind) refl
  where
    kept : has key (inserted d is) ≡ has key is → (b : Bool)
        → not (null (cond b (i ∷ inserted d is) (from_key key (inserted d is)))) ≡ not (null (cond b (i ∷ is) (from_key key is)))
    kept ih true = refl
    kept ih false = ih

    go : has key (inserted d is) ≡ has key is → (a b : Bool) → same i.key dof ≡ a
        → has key (cond a (record { key = dof; first = d; more = i.more } ∷ is) (cond b (date_item d ∷ (i ∷ is)) (i ∷ inserted d is))) ≡ has key (i ∷ is)
    go ih true b p = rw (n, ap (λ (k : Word). same k key) (same-eq i.key dof p) ∙ n)
    go ih false true p = rw n
    go ih false false p = kept ih (same i.key key)
