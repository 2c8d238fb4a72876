-- `canonical::put_word` meets its contract. Assumes nothing.
use Prim.Native.Nat.{ℕ, ◌+◌, ◌-◌, ◌<◌, ◌≤◌}
use mathlib.Core.Bool.{Bool, true, cond}
use mathlib.Core.List.{List, [], ◌∷◌, ◌++◌}
use mathlib.Core.Path.{◌≡◌, refl, sym, ap, ap₂, ◌∙◌}
use native.Mathlib.Omega.{arith}
use lib.Dec.{eqb}
use lib.ListN.{length, take, drop, get_or, set, length-set, length-drop}
use Rattle.text.specs.Lent.{front}
use Rattle.text.proofs.Index.{rest}
use Rattle.text.proofs.Lent.{lent}
use Rattle.supplement.proofs.Steps.{second_inside}
use Rattle.canonical.specs.Rewriting.{changed, up_to_oblique, rewrite}
use Rattle.canonical.proofs.Steps.{rewrite_parts, rewrite_length, rewrite_shorter, two_bytes, stored_two}
use Rattle.canonical.proofs.Turns.{put_same, room_same, halves}
use Rattle.canonical.proofs.put_word.Goals.{Else-not-has_key, Then-not-has_key}
use Rattle.canonical.proofs.put_word.Goals as goal

plain : (c : Then-not-has_key) → rewrite c.args.stage c.args.w.now ≡ changed c.args.stage c.args.w.now
plain c =
    let n = sym c.has_key.ensures ∙ c.if-not-has_key.true in
    rewrite_parts c.args.stage c.args.w.now 0 (sym (c.requires.0 ∙ ap (λ (b : Bool). cond b 2 0) n)) (omega arith)

second : (c : Else-not-has_key) → eqb (get_or c.args.w.now 1 0) 47 ≡ true
second c =
    sym c.has_key.ensures ∙ c.if-not-has_key.false

inside : (c : Else-not-has_key) → 1 < length c.args.w.now
inside c =
    second_inside c.args.w.now (second c)

two : (c : Else-not-has_key) → 2 ≡ up_to_oblique c.args.w.now
two c =
    sym (c.requires.0 ∙ ap (λ (b : Bool). cond b 2 0) (second c))

within : (c : Else-not-has_key) → 2 ≤ length c.args.w.now
within c =
    omega (arith, (inside c))

behind-same : (c : Else-not-has_key) → ((changed c.args.stage (take (length c.args.w.now - 2) (drop 2 c.args.w.now))))
    ≡ changed c.args.stage (drop 2 c.args.w.now)
behind-same c =
    ap (changed c.args.stage) (rest c.args.w.now 2)

whole_length : (c : Else-not-has_key) → length (rewrite c.args.stage c.args.w.now)
    ≡ 2 + length ((changed c.args.stage (take (length c.args.w.now - 2) (drop 2 c.args.w.now))))
whole_length c =
    rewrite_length c.args.stage c.args.w.now 2 (two c) (within c) ∙ ap (λ (v : List ℕ). 2 + length v) (sym (behind-same c))

roomy : (c : Else-not-has_key) → 2 + length ((changed c.args.stage (take (length c.args.w.now - 2) (drop 2 c.args.w.now)))) ≤ length c.args.out.now
roomy c =
    omega (arith, (whole_length c), c.requires.1)

led-length : (c : Else-not-has_key) → length ((set (set c.args.out.now 0 (get_or c.args.w.now 0 0)) 1 47)) ≡ length c.args.out.now
led-length c =
    length-set (set c.args.out.now 0 (get_or c.args.w.now 0 0)) 1 47 ∙ length-set c.args.out.now 0 (get_or c.args.w.now 0 0)

pub put_changed-requires : goal.put_changed-requires
put_changed-requires c =
    room_same c.args.out.now (plain (goal.at.put_changed-requires c).Then-not-has_key) c.requires.1

pub returns-then-not-has_key : goal.returns-then-not-has_key
returns-then-not-has_key c =
    put_same c.args.out.now (sym (plain (goal.at.returns-then-not-has_key c).Then-not-has_key)) c.put_changed.ensures

pub bounds-w-0 : goal.bounds-w-0
bounds-w-0 c =
    omega (arith, inside (goal.at.bounds-w-0 c).Else-not-has_key)

pub bounds-out-0 : goal.bounds-out-0
bounds-out-0 c =
    omega (arith, roomy (goal.at.bounds-out-0 c).Else-not-has_key)

pub bounds-out-1 : goal.bounds-out-1
bounds-out-1 c =
    simp length-set (omega (arith, roomy (goal.at.bounds-out-1 c).Else-not-has_key))

pub slice_bounds-put_changed-count : goal.slice_bounds-put_changed-count
slice_bounds-put_changed-count c =
    within (goal.at.slice_bounds-put_changed-count c).Else-not-has_key

pub slice_bounds-put_changed-start : goal.slice_bounds-put_changed-start
slice_bounds-put_changed-start c =
    within (goal.at.slice_bounds-put_changed-start c).Else-not-has_key

pub slice_bounds-put_changed-count-2 : goal.slice_bounds-put_changed-count-2
slice_bounds-put_changed-count-2 c =
    omega (arith, roomy (goal.at.slice_bounds-put_changed-count-2 c).Else-not-has_key, led-length (goal.at.slice_bounds-put_changed-count-2 c).Else-not-has_key)

pub slice_bounds-put_changed-start-2 : goal.slice_bounds-put_changed-start-2
slice_bounds-put_changed-start-2 c =
    omega (arith, roomy (goal.at.slice_bounds-put_changed-start-2 c).Else-not-has_key, led-length (goal.at.slice_bounds-put_changed-start-2 c).Else-not-has_key)

pub put_changed-requires-2 : goal.put_changed-requires-2
put_changed-requires-2 c =
    let h : length (changed c.args.stage (take (length c.args.w.now - 2) (drop 2 c.args.w.now)))
    ≤ length (take (length (set (set c.args.out.now 0 (get_or c.args.w.now 0 0)) 1 47) - 2)
    (drop 2 (set (set c.args.out.now 0 (get_or c.args.w.now 0 0)) 1 47)))
    =
    omega (
      arith,
      ap length (rest (set (set c.args.out.now 0 (get_or c.args.w.now 0 0)) 1 47) 2),
      length-drop 2
          (set (set c.args.out.now 0 (get_or c.args.w.now 0 0)) 1 47),
      led-length (goal.at.put_changed-requires-2 c).Else-not-has_key,
      roomy
          (goal.at.put_changed-requires-2 c).Else-not-has_key,
    ) in
    h

pub overflow_add-result : goal.overflow_add-result
overflow_add-result c =
    omega (
      arith,
      c.put_changed-2.ensures.0,
      whole_length (goal.at.overflow_add-result c).Else-not-has_key,
      rewrite_shorter c.args.stage c.args.w.now 2
          (two (goal.at.overflow_add-result c).Else-not-has_key) (within (goal.at.overflow_add-result c).Else-not-has_key),
    )

pub shape_of-out : goal.shape_of-out
shape_of-out c =
    c.out-2-1.given.1 ∙ led-length (goal.at.shape_of-out c).Else-not-has_key

pub returns : goal.returns
returns c =
    let a = get_or c.args.w.now 0 0 in (
      omega (arith, c.put_changed-2.ensures.0, whole_length (goal.at.returns c).Else-not-has_key),
      lent (set (set c.args.out.now 0 (get_or c.args.w.now 0 0)) 1 47) (changed c.args.stage (take (length c.args.w.now - 2) (drop 2 c.args.w.now))) 2 _
          c.put_changed-2.ensures.1
          ∙ halves (a ∷ (47 ∷ [])) (changed c.args.stage (take (length c.args.w.now - 2) (drop 2 c.args.w.now))) c.args.out.now
          (set (set c.args.out.now 0 (get_or c.args.w.now 0 0)) 1 47) 2 refl
          (stored_two c.args.out.now a 47 (omega (arith, roomy (goal.at.returns c).Else-not-has_key)))
          ∙ ap₂ (λ (u v : List ℕ). front (u ++ v) c.args.out.now) (sym (two_bytes c.args.w.now (second (goal.at.returns c).Else-not-has_key)))
          (behind-same (goal.at.returns c).Else-not-has_key)
          ∙ ap (λ (v : List ℕ). front v c.args.out.now)
          (sym (rewrite_parts c.args.stage c.args.w.now 2 (two (goal.at.returns c).Else-not-has_key) (within (goal.at.returns c).Else-not-has_key))),
    )
