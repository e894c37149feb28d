use Rattle.std.proofs.Common.{◌≡◌, ◌+◌, ◌∙◌, List, ℕ, true, false, if◌then◌else◌, codes, length, Result, Ok, inr, ap, sym}
use Rattle.jmap_arguments.specs.State.{state_text}
use Rattle.jmap_arguments.specs.declared.method_error.MethodError.{MethodError}
use Rattle.serde_json.specs.Data.{Data, no_members, number, put, unsigned}
use Rattle.serde_json.specs.View.{members_view}
use Rattle.serde_json.specs.Written.{has_float}
use Rattle.serde_json.proofs.Views.{view-Object}
use Rattle.query_changes.specs.Changes.{is_no_more_than, now_in, told_members, were_there}
use Rattle.query_changes.proofs.ReplyLemmas.{refuses, tells, tells_whole}
use Rattle.query_changes.proofs.reply.reply.Goals as goal

pub returns-then-not-is_no_more_than-clause-agrees : goal.returns-then-not-is_no_more_than-clause-agrees
returns-then-not-is_no_more_than-clause-agrees c =
    let a = c.args in
    let touched = a.touched.now.ids in
    let removed = c.in_ok-removed.removed.items in
    let added = c.in_ok-added.added.items in
    let within = c.is_no_more_than.result in
    let now = state_text a.touched.now.last in
    let are_removed : removed ≡ were_there touched = c.in_ok-removed.ensures ∙ ap were_there c.as_slice-ids.ensures in
    let are_added : added ≡ now_in a.list.now touched = c.in_ok-added.ensures ∙ ap (now_in a.list.now) c.as_slice-ids.ensures in
    let test_is : within ≡ is_no_more_than a.most (length removed + length added) =
    c.is_no_more_than.ensures ∙ ap (λ (l : List ℕ). is_no_more_than a.most (length l + length c.deref-2.result.now)) c.deref.ensures.value
    ∙ ap (λ (l : List (ℕ × ℕ)). is_no_more_than a.most (length removed + length l)) c.deref-2.ensures.value in
    let fails : within ≡ false = cc in
    inr (refuses a.letter a.since.now now a.most a.counts touched a.list.now removed added within are_removed are_added test_is fails)

pub returns-clause-agrees : goal.returns-clause-agrees
returns-clause-agrees c =
    let a = c.args in
    let touched = a.touched.now.ids in
    let removed = c.in_ok-removed.removed.items in
    let added = c.in_ok-added.added.items in
    let within = c.is_no_more_than.result in
    let now = state_text a.touched.now.last in
    let are_removed : removed ≡ were_there touched = c.in_ok-removed.ensures ∙ ap were_there c.as_slice-ids.ensures in
    let are_added : added ≡ now_in a.list.now touched = c.in_ok-added.ensures ∙ ap (now_in a.list.now) c.as_slice-ids.ensures in
    let test_is : within ≡ is_no_more_than a.most (length removed + length added) =
    c.is_no_more_than.ensures ∙ ap (λ (l : List ℕ). is_no_more_than a.most (length l + length c.deref-2.result.now)) c.deref.ensures.value
    ∙ ap (λ (l : List (ℕ × ℕ)). is_no_more_than a.most (length removed + length l)) c.deref-2.ensures.value in
    let before = members_view c.in_ok-members.members.entries in
    let after = members_view c.put_total.new.members.entries in
    let are : before ≡ told_members a.letter a.since.now now removed added no_members =
    c.in_ok-members.ensures ∙ ap (λ (l : List ℕ). told_members a.letter a.since.now now l c.deref-4.result.now no_members) c.deref-3.ensures.value
    ∙ ap (λ (l : List (ℕ × ℕ)). told_members a.letter a.since.now now removed l no_members) c.deref-4.ensures.value in
    let counted : after ≡ (if a.counts then put (codes "total") (number (unsigned (length a.list.now))) before else before) = c.in_ok-put_total.ensures in
    let holds : within ≡ true = cc in
    tells a.letter a.since.now now a.most a.counts touched a.list.now removed added within are_removed are_added test_is
    before after are counted holds ∙ ap (λ (d : Data). let r : Result Data MethodError = Ok d in r) (sym (view-Object c.put_total.new.members))

pub returns-clause-whole : goal.returns-clause-whole
returns-clause-whole c =
    let a = c.args in
    let touched = a.touched.now.ids in
    let removed = c.in_ok-removed.removed.items in
    let added = c.in_ok-added.added.items in
    let within = c.is_no_more_than.result in
    let now = state_text a.touched.now.last in
    let are_removed : removed ≡ were_there touched = c.in_ok-removed.ensures ∙ ap were_there c.as_slice-ids.ensures in
    let are_added : added ≡ now_in a.list.now touched = c.in_ok-added.ensures ∙ ap (now_in a.list.now) c.as_slice-ids.ensures in
    let test_is : within ≡ is_no_more_than a.most (length removed + length added) =
    c.is_no_more_than.ensures ∙ ap (λ (l : List ℕ). is_no_more_than a.most (length l + length c.deref-2.result.now)) c.deref.ensures.value
    ∙ ap (λ (l : List (ℕ × ℕ)). is_no_more_than a.most (length removed + length l)) c.deref-2.ensures.value in
    let before = members_view c.in_ok-members.members.entries in
    let after = members_view c.put_total.new.members.entries in
    let are : before ≡ told_members a.letter a.since.now now removed added no_members =
    c.in_ok-members.ensures ∙ ap (λ (l : List ℕ). told_members a.letter a.since.now now l c.deref-4.result.now no_members) c.deref-3.ensures.value
    ∙ ap (λ (l : List (ℕ × ℕ)). told_members a.letter a.since.now now removed l no_members) c.deref-4.ensures.value in
    let counted : after ≡ (if a.counts then put (codes "total") (number (unsigned (length a.list.now))) before else before) = c.in_ok-put_total.ensures in
    ap has_float (view-Object c.put_total.new.members) ∙ tells_whole a.letter a.since.now now a.most a.counts touched a.list.now removed added within are_removed are_added test_is
    before after are counted
