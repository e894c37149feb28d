-- The pieces so far, and the next one.
use Rattle.std.proofs.Common.{◌≡◌, ◌≤◌, ◌∙◌, ◌++◌, List, ℕ, length, take, drop, refl, ap, sym, subst, append_assoc}
use Rattle.std.proofs.lemmas.List.{take-append-drop, take-append-le}
use Rattle.imap_types.specs.Spells.{IsSpelling}
use Rattle.imap_types.specs.declared.response.Response.{Response}
use Rattle.scan_speed.proofs.first.Goals as goal

joined : (bytes so_far rest front back : List ℕ) (k : ℕ) → bytes ≡ so_far ++ rest → front ≡ take k rest → back ≡ drop k rest → bytes ≡ (so_far ++ front) ++ back
joined bytes so_far rest front back k whole is_front is_back =
    whole ∙ ap (λ (u : List ℕ). so_far ++ u) (sym (take-append-drop k rest) ∙ ap (λ (u : List ℕ). u ++ drop k rest) (sym is_front) ∙ ap (λ (u : List ℕ). front ++ u) (sym is_back))
    ∙ sym (append_assoc so_far front back)

taken : (n : ℕ) (bytes front back : List ℕ) → bytes ≡ front ++ back → n ≤ length front → take n front ≡ take n bytes
taken n bytes front back whole le = sym (ap (take n) whole ∙ take-append-le n front back le)

pub returns-in-Whole-clause-whole : goal.returns-in-Whole-clause-whole
returns-in-Whole-clause-whole c =
    let so = c.loop-rest.invariant in
    let told = c.in-Whole.ensures.scan so.0 so.2 in
    let front = so.0 ++ c.split_at.result.0.now in
    let whole =
    joined c.args.bytes.now so.0 c.loop-rest.rest.now c.split_at.result.0.now c.split_at.result.1.now c.min.result so.1 c.split_at.ensures.front c.split_at.ensures.back in
    subst (λ (u : List ℕ). (v : Response) × IsSpelling v u) (taken c.in-Whole.n c.args.bytes.now front c.split_at.result.1.now whole told.0) told.1

pub loop-rest-preserved : goal.loop-rest-preserved
loop-rest-preserved c =
    let so = c.loop-rest.invariant in (
      so.0 ++ c.split_at.result.0.now,
      joined c.args.bytes.now so.0 c.loop-rest.rest.now c.split_at.result.0.now c.split_at.result.1.now c.min.result so.1 c.split_at.ensures.front c.split_at.ensures.back,
      c.in-NeedMore.ensures.more so.0 so.2 refl,
    )
