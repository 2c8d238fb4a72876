-- A DLA's date put into a plan's field 18, whether the contents fit or not: how long it is, and that no hyphen comes in. Assumes nothing.
use Prim.Native.Nat.{ℕ, suc, ◌+◌, ◌<◌, ◌≤◌}
use mathlib.Core.Path.{◌≡◌, refl, ap}
use mathlib.Core.Bool.{Bool, true, false, cond}
use mathlib.Core.List.{List, [], ◌∷◌}
use native.Mathlib.Omega.{arith}
use lib.ListN.{length, get_or, length-append}
use Rattle.text.specs.Words.{Word, split, join, null, free}
use Rattle.text.proofs.Joined.{join-split}
use Rattle.kinds.specs.Kinds.{brief13, brief18}
use Rattle.dates.specs.Dates.{date_in, with_date}
use Rattle.dates.proofs.Bytes.{date_shorter, with_room, with_free, date_free}
use Rattle.force.specs.InForce.{field_at}
use Rattle.amending.specs.Amended.{dated_by}

-- NOTHING, by its length

pub null_none : (w : Word) → length w ≡ 0 → null w ≡ true
null_none [] e = refl
null_none (b ∷ w) e = absurd (omega arith)

pub null_some : (w : Word) → (length w ≡ 0 → ⊥) → null w ≡ false
null_some [] e = absurd (e refl)
null_some (b ∷ w) e = refl

-- WHAT A DLA'S FIELD 18 ADDS, and its field 13: no more than it has bytes

abbrev pub added : Word → ℕ
added t = cond (null (date_in t)) 0 (suc (length t))

pub dated_long : (own t : Word) → length (dated_by (date_in t) own) ≤ length own + added t
dated_long own t = go (null (date_in t)) refl
  where
    go : (b : Bool) → null (date_in t) ≡ b → length (cond b own (with_date (date_in t) own)) ≤ length own + cond b 0 (suc (length t))
    go true q = omega arith
    go false q = with_room own t q

joined_first : (w : Word) (ws : List Word) → length w ≤ length (join 45 (w ∷ ws))
joined_first w [] = omega arith
joined_first w (v ∷ ws) = omega (arith, length-append w (45 ∷ join 45 (v ∷ ws)))

-- before a field 18 there are hyphens
two_fields : (ws : List Word) → 0 < length (get_or ws brief18 []) → length (get_or ws brief13 []) + suc (length (get_or ws brief18 [])) ≤ length (join 45 ws)
two_fields [] h = absurd (omega arith)
two_fields (a ∷ []) h = absurd (omega arith)
two_fields (a ∷ (b ∷ [])) h = absurd (omega arith)
two_fields (a ∷ (b ∷ (c ∷ []))) h = absurd (omega arith)
two_fields (a ∷ (b ∷ (c ∷ (d ∷ [])))) h = absurd (omega arith)
two_fields (a ∷ (b ∷ (c ∷ (d ∷ (e ∷ ws))))) h =
    omega (
      arith,
      length-append a (45 ∷ join 45 (b ∷ (c ∷ (d ∷ (e ∷ ws))))),
      length-append b (45 ∷ join 45 (c ∷ (d ∷ (e ∷ ws)))),
      length-append c (45 ∷ join 45 (d ∷ (e ∷ ws))),
      length-append d (45 ∷ join 45 (e ∷ ws)),
      joined_first e ws,
    )

pub added_room : (said : List ℕ) → length (field_at said brief13) ≤ length said → length (field_at said brief13) + added (field_at said brief18) ≤ length said
added_room said l = go (null (date_in (field_at said brief18))) refl
  where
    go : (b : Bool) → null (date_in (field_at said brief18)) ≡ b
        → length (field_at said brief13) + cond b 0 (suc (length (field_at said brief18))) ≤ length said
    go true q = omega (arith, l)
    go false q =
        let t = field_at said brief18 in
        omega (arith, two_fields (split 45 said) (omega (arith, date_shorter t q)), ap length (join-split 45 said))

-- NO HYPHEN COMES IN

pub dated_free : (own t : Word) → free 45 own ≡ true → free 45 t ≡ true → free 45 (dated_by (date_in t) own) ≡ true
dated_free own t p q = go (null (date_in t))
  where
    go : (b : Bool) → free 45 (cond b own (with_date (date_in t) own)) ≡ true
    go true = p
    go false = with_free (date_in t) (date_free t q) own p
