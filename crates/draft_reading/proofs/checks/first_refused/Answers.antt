use Rattle.std.proofs.Common.{◌≡◌, [], ℕ, List, true, string_bytes, rules, refl, sym, subst}
use Rattle.serde_json.specs.View.{view, members_view}
use Rattle.serde_json.proofs.Views.{Entry}
use Rattle.draft_reading.specs.Properties.{IsAllowed, IsFirstRefused}
use Rattle.draft_reading.proofs.FirstLemmas.{AllowedBefore, before_more, none_refused, first_refused}
use Rattle.draft_reading.proofs.checks.first_refused.Goals as goal

pub loop-key-init : goal.loop-key-init
loop-key-init c = record { done = []; whole_is = search rules; allowed = tt }

pub loop-key-preserved : goal.loop-key-preserved
loop-key-preserved c =
    let all = members_view c.args.all.now.entries in
    let e : Entry = (c.in-Some.key.now, c.in-Some.value.now) in
    let so = subst (λ (es : List Entry). AllowedBefore all c.args.all.now.entries es) c.in-Some.ensures.steps c.loop-key.invariant in
    let is = subst (λ (k : List ℕ). IsAllowed all k (view e.1)) c.as_str.ensures.value (c.in_ok-allowed.ensures.0 c.if-not-allowed.false) in
    before_more all c.args.all.now.entries e c.next.new.self so is

pub returns-then-not-allowed-clause-some : goal.returns-then-not-allowed-clause-some
returns-then-not-allowed-clause-some c =
    let all = members_view c.args.all.now.entries in
    let e : Entry = (c.in-Some.key.now, c.in-Some.value.now) in
    let so = subst (λ (es : List Entry). AllowedBefore all c.args.all.now.entries es) c.in-Some.ensures.steps c.loop-key.invariant in
    let bad = λ (a : IsAllowed all (string_bytes e.0) (view e.1)). (
    let f : c.in_ok-allowed.allowed ≡ true = c.in_ok-allowed.ensures.1 (subst (λ (k : List ℕ). IsAllowed all k (view e.1)) (sym c.as_str.ensures.value) a) in absurd (cc (f, c.if-not-allowed.true))) in
    subst (λ (k : List ℕ). IsFirstRefused all k) (sym c.as_str-then-not-allowed.ensures.value)
    (first_refused all c.args.all.now.entries e c.next.new.self refl c.iter-key-items.ensures.ordered so bad)

pub returns-clause-none : goal.returns-clause-none
returns-clause-none c =
    let all = members_view c.args.all.now.entries in
    none_refused all c.args.all.now.entries refl (subst (λ (es : List Entry). AllowedBefore all c.args.all.now.entries es) c.in-None.ensures.steps.0 c.loop-key.invariant)
