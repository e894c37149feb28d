use Rattle.std.proofs.Common.{◌∙◌, [], ℕ, List, true, false, rules, sym, ap, subst}
use Rattle.serde_json.specs.View.{view, members_view}
use Rattle.serde_json.proofs.Views.{Entry}
use Rattle.email_import.specs.Asked.{IsFirst, IsWrongMember, is_import_value}
use Rattle.email_import.proofs.MemberLemmas.{Right, RightBefore, before_more, none_wrong, first_wrong_member}
use Rattle.email_import.proofs.members.wrong_member.Goals as goal

pub loop-key-init : goal.loop-key-init
loop-key-init c = λ g is. record { done = []; whole_is = search rules; right = tt }

pub loop-key-preserved : goal.loop-key-preserved
loop-key-preserved c = λ g is.
    let e : Entry = (c.in-Some.key.now, c.in-Some.value.now) in
    let so = subst (λ (es : List Entry). RightBefore (Right g c.args.properties.now.entries) c.args.properties.now.entries es) c.in-Some.ensures.steps (c.loop-key.invariant g is) in
    before_more (Right g c.args.properties.now.entries) c.args.properties.now.entries e c.next.new.self so
    (ap (λ (k : List ℕ). is_import_value g k (view e.1)) (sym c.as_str.ensures.value) ∙ sym (c.is_import_value.ensures g is) ∙ c.if-not-is_import_value.false)

pub returns-then-not-is_import_value : goal.returns-then-not-is_import_value
returns-then-not-is_import_value c = λ g is.
    let e : Entry = (c.in-Some.key.now, c.in-Some.value.now) in
    let so = subst (λ (es : List Entry). RightBefore (Right g c.args.properties.now.entries) c.args.properties.now.entries es) c.in-Some.ensures.steps (c.loop-key.invariant g is) in
    subst (λ (k : List ℕ). IsFirst (IsWrongMember g (members_view c.args.properties.now.entries)) k) (sym c.as_str-then-not-is_import_value.ensures.value)
    (first_wrong_member g c.args.properties.now.entries e c.next.new.self c.iter-key-items.ensures.ordered so
    (ap (λ (k : List ℕ). is_import_value g k (view e.1)) (sym c.as_str.ensures.value) ∙ sym (c.is_import_value.ensures g is) ∙ c.if-not-is_import_value.true))

pub returns : goal.returns
returns c = λ g is.
    none_wrong g c.args.properties.now.entries
    (subst (λ (es : List Entry). RightBefore (Right g c.args.properties.now.entries) c.args.properties.now.entries es) c.in-None.ensures.steps.0 (c.loop-key.invariant g is))
