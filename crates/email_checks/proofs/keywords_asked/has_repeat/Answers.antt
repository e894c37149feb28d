use Rattle.std.proofs.Common.{◌≡◌, ◌<◌, ◌+◌, ℕ, suc, List, ◌∷◌, Bool, map, drop, length, add-one, arith, sym, ap, ◌∙◌, Vec, Global}
use Rattle.std.proofs.Math.Seq.{drop-cons}
use Rattle.jmap_arguments.specs.Arguments.{is_among}
use Rattle.mail_maps.specs.reading.Sets.{set_items}
use Rattle.set_patches.specs.declared.patches.Part.{Part}
use Rattle.set_patches.specs.reading.Parts.{part_data}
use Rattle.email_checks.specs.Asked.{keywords_pointed}
use Rattle.email_checks.specs.reading.Sets.{set_keywords}
use Rattle.email_checks.proofs.RepeatLemmas.{collides, none_seen, passed_at}
use Rattle.email_checks.proofs.keywords_asked.has_repeat.Goals as goal

pub loop-part-init : goal.loop-part-init
loop-part-init c =
    let ks : List (List ℕ) = keywords_pointed (map part_data c.deref-part-items.result.now) in
    none_seen ks ∙ ap (λ (keys : List (Vec ℕ Global)). collides (λ k. is_among k (map set_items keys)) ks) (sym c.new-keywords.ensures.empty)

pub loop-part-preserved : goal.loop-part-preserved
loop-part-preserved c =
    let items : List Part = c.deref-part-items.result.now in
    let i : ℕ = c.loop-part.part-index in
    let part : Part = c.part-item.result in
    let seen : List ℕ → Bool = λ k. is_among k (set_keywords c.loop-part.keywords) in
    let now : List ℕ → Bool = λ k. is_among k (set_keywords c.repeats.new.keywords) in
    let within : i < length items = omega arith in
    let more : drop i items ≡ part ∷ drop (i + 1) items = rw add-one (drop-cons items i part within ∙ ap (λ (x : Part). x ∷ drop (suc i) items) (sym c.part-item.is)) in
    c.loop-part.invariant ∙ ap (λ (ps : List Part). collides seen (keywords_pointed (map part_data ps))) more
    ∙ passed_at seen now part.pointer (keywords_pointed (map part_data (drop (i + 1) items))) (sym c.in_ok-repeats.ensures.repeat ∙ c.if-branch.false) c.in_ok-repeats.ensures.keywords
