-- `parts::plan_in` meets its contract. Assumes nothing.
use mathlib.Core.Path.{◌≡◌, ap, ◌∙◌}
use Rattle.head.specs.Field9.{fits9}
use Rattle.aerodromes.specs.Field13.{fits13}
use Rattle.aerodromes.specs.Field16.{fits16plan}
use Rattle.kinds.specs.declared.MessageType.TheVariants.{Fpl}
use Rattle.kinds.specs.Kinds.{plan7, plan9, plan13, plan16, plan18}
use Rattle.parts.specs.Parts.{Own, content_in, span_at}
use Rattle.parts.proofs.Steps.{span_bounds, from_short, content_there, content_short, nine_fits, thirteen_fits, sixteen_fits}
use Rattle.parts.proofs.Steps.{identification_is, aircraft_at, off_block_at, destination_at, date_at, plan_is}
use Rattle.parts.proofs.plan_in.Goals.{After-content, After-content-2, After-content-3, After-content-4, After-content-5, After-field_at-eighteen}
use Rattle.parts.proofs.plan_in.Goals as goal

own : (c : After-field_at-eighteen) → Own Fpl c.args.m.now
own c =
    c.requires

seven : (c : After-field_at-eighteen) → c.field_at-seven.result ≡ span_at c.args.m.now plan7
seven c =
    c.field_at-seven.ensures

nine : (c : After-field_at-eighteen) → c.field_at-nine.result ≡ span_at c.args.m.now plan9
nine c =
    c.field_at-nine.ensures

thirteen : (c : After-field_at-eighteen) → c.field_at-thirteen.result ≡ span_at c.args.m.now plan13
thirteen c =
    c.field_at-thirteen.ensures

sixteen : (c : After-field_at-eighteen) → c.field_at-sixteen.result ≡ span_at c.args.m.now plan16
sixteen c =
    c.field_at-sixteen.ensures

eighteen : (c : After-field_at-eighteen) → c.field_at-eighteen.result ≡ span_at c.args.m.now plan18
eighteen c =
    c.field_at-eighteen.ensures

-- THEIR CONTENTS
content-seven : (c : After-content) → c.content.result.now ≡ content_in c.args.m.now plan7
content-seven c =
    let own : Own Fpl c.args.m.now = c.requires in
    let seven : c.field_at-seven.result ≡ span_at c.args.m.now plan7 = c.field_at-seven.ensures in
    content_there Fpl c.args.m.now own plan7 _ seven _ c.content.ensures

content-nine : (c : After-content-2) → c.content-2.result.now ≡ content_in c.args.m.now plan9
content-nine c =
    let own : Own Fpl c.args.m.now = c.requires in
    let nine : c.field_at-nine.result ≡ span_at c.args.m.now plan9 = c.field_at-nine.ensures in
    content_there Fpl c.args.m.now own plan9 _ nine _ c.content-2.ensures

content-thirteen : (c : After-content-3) → c.content-3.result.now ≡ content_in c.args.m.now plan13
content-thirteen c =
    let own : Own Fpl c.args.m.now = c.requires in
    let thirteen : c.field_at-thirteen.result ≡ span_at c.args.m.now plan13 = c.field_at-thirteen.ensures in
    content_there Fpl c.args.m.now own plan13 _ thirteen _ c.content-3.ensures

content-sixteen : (c : After-content-4) → c.content-4.result.now ≡ content_in c.args.m.now plan16
content-sixteen c =
    let own : Own Fpl c.args.m.now = c.requires in
    let sixteen : c.field_at-sixteen.result ≡ span_at c.args.m.now plan16 = c.field_at-sixteen.ensures in
    content_there Fpl c.args.m.now own plan16 _ sixteen _ c.content-4.ensures

content-eighteen : (c : After-content-5) → c.content-5.result.now ≡ content_in c.args.m.now plan18
content-eighteen c =
    let own : Own Fpl c.args.m.now = c.requires in
    let eighteen : c.field_at-eighteen.result ≡ span_at c.args.m.now plan18 = c.field_at-eighteen.ensures in
    content_there Fpl c.args.m.now own plan18 _ eighteen _ c.content-5.ensures

pub content-requires : goal.content-requires
content-requires c =
    span_bounds Fpl c.args.m.now (own (goal.at.content-requires c).After-field_at-eighteen) plan7 _ (seven (goal.at.content-requires c).After-field_at-eighteen)

pub identification_in-requires : goal.identification_in-requires
identification_in-requires c = (
  from_short Fpl c.args.m.now (own (goal.at.identification_in-requires c).After-field_at-eighteen) plan7 _
      (seven (goal.at.identification_in-requires c).After-field_at-eighteen),
  content_short Fpl c.args.m.now
      (own (goal.at.identification_in-requires c).After-field_at-eighteen) plan7 _ (seven (goal.at.identification_in-requires c).After-field_at-eighteen) _
      c.content.ensures,
)

pub content-requires-2 : goal.content-requires-2
content-requires-2 c =
    span_bounds Fpl c.args.m.now (own (goal.at.content-requires-2 c).After-field_at-eighteen) plan9 _
    (nine (goal.at.content-requires-2 c).After-field_at-eighteen)

pub aircraft_in-requires : goal.aircraft_in-requires
aircraft_in-requires c = (
  from_short Fpl c.args.m.now (own (goal.at.aircraft_in-requires c).After-field_at-eighteen) plan9 _
      (nine (goal.at.aircraft_in-requires c).After-field_at-eighteen),
  content_short Fpl c.args.m.now (own (goal.at.aircraft_in-requires c).After-field_at-eighteen) plan9 _
      (nine (goal.at.aircraft_in-requires c).After-field_at-eighteen) _ c.content-2.ensures,
  ap fits9 (content-nine (goal.at.aircraft_in-requires c).After-content-2)
      ∙ nine_fits c.args.m.now (own (goal.at.aircraft_in-requires c).After-field_at-eighteen),
)

pub content-requires-3 : goal.content-requires-3
content-requires-3 c =
    span_bounds Fpl c.args.m.now (own (goal.at.content-requires-3 c).After-field_at-eighteen) plan13 _
    (thirteen (goal.at.content-requires-3 c).After-field_at-eighteen)

pub off_block_in-requires : goal.off_block_in-requires
off_block_in-requires c =
    ap fits13 (content-thirteen (goal.at.off_block_in-requires c).After-content-3) ∙ thirteen_fits c.args.m.now
    (own (goal.at.off_block_in-requires c).After-field_at-eighteen)

pub content-requires-4 : goal.content-requires-4
content-requires-4 c =
    span_bounds Fpl c.args.m.now (own (goal.at.content-requires-4 c).After-field_at-eighteen) plan16 _
    (sixteen (goal.at.content-requires-4 c).After-field_at-eighteen)

pub destination_in-requires : goal.destination_in-requires
destination_in-requires c = (
  from_short Fpl c.args.m.now (own (goal.at.destination_in-requires c).After-field_at-eighteen) plan16 _
      (sixteen (goal.at.destination_in-requires c).After-field_at-eighteen),
  ap fits16plan
      (content-sixteen (goal.at.destination_in-requires c).After-content-4) ∙ sixteen_fits c.args.m.now
      (own (goal.at.destination_in-requires c).After-field_at-eighteen),
)

pub content-requires-5 : goal.content-requires-5
content-requires-5 c =
    span_bounds Fpl c.args.m.now (own (goal.at.content-requires-5 c).After-field_at-eighteen) plan18 _
    (eighteen (goal.at.content-requires-5 c).After-field_at-eighteen)

pub returns : goal.returns
returns c =
    plan_is c.args.m.now _ _ _ _ _
    (c.identification_in.ensures ∙ identification_is c.args.m.now _ _ (seven (goal.at.returns c).After-field_at-eighteen)
    (content-seven (goal.at.returns c).After-content))
    (c.aircraft_in.ensures ∙ aircraft_at c.args.m.now _ _ (nine (goal.at.returns c).After-field_at-eighteen) (content-nine (goal.at.returns c).After-content-2))
    (c.off_block_in.ensures ∙ off_block_at c.args.m.now _ _ (thirteen (goal.at.returns c).After-field_at-eighteen)
    (content-thirteen (goal.at.returns c).After-content-3))
    (c.destination_in.ensures ∙ destination_at c.args.m.now _ _ (sixteen (goal.at.returns c).After-field_at-eighteen)
    (content-sixteen (goal.at.returns c).After-content-4))
    (c.date_in.ensures ∙ date_at c.args.m.now _ (content-eighteen (goal.at.returns c).After-content-5))
