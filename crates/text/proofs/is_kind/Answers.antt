-- `text::is_kind` meets its contract. Assumes nothing.
use mathlib.Core.Path.{sym, ap, ◌∙◌}
use Rattle.text.specs.Kinds.{of_kind}
use Rattle.text.specs.declared.Kind.{Kind}
use Rattle.text.proofs.is_kind.Goals as goal

pub returns-in-Letter : goal.returns-in-Letter
returns-in-Letter c =
    c.is_letter.ensures ∙ sym (ap (λ (k : Kind). of_kind k c.args.b) c.in-Letter.is)

pub returns-in-Digit : goal.returns-in-Digit
returns-in-Digit c =
    c.is_digit.ensures ∙ sym (ap (λ (k : Kind). of_kind k c.args.b) c.in-Digit.is)

pub returns-in-Sign : goal.returns-in-Sign
returns-in-Sign c =
    c.is_sign.ensures ∙ sym (ap (λ (k : Kind). of_kind k c.args.b) c.in-Sign.is)

pub returns-in-Text : goal.returns-in-Text
returns-in-Text c =
    c.is_text.ensures ∙ sym (ap (λ (k : Kind). of_kind k c.args.b) c.in-Text.is)
