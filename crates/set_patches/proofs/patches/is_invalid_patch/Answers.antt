use Rattle.std.proofs.Common.{◌≡◌, ◌||◌, Bool, false, map, sym, ap, ◌∙◌}
use Rattle.std.specs.List.{list_any}
use Rattle.serde_json.specs.Data.{Data}
use Rattle.serde_json.specs.View.{members_view}
use Rattle.set_patches.specs.Patches.{Patch, Pointer, leads_nowhere, member_keys, overlap, patch_in}
use Rattle.set_patches.proofs.OverlapLemmas.{overlap_is}
use Rattle.set_patches.proofs.patches.is_invalid_patch.Goals as goal

pub returns-else-one_leads_nowhere : goal.returns-else-one_leads_nowhere
returns-else-one_leads_nowhere c =
    let objects = map (λ t. t.now) c.args.objects.now in
    let ms = members_view c.args.patch.now.entries in
    let test : Pointer × Data → Bool = λ p. leads_nowhere objects p.0 in
    let none : list_any test (patch_in ms) ≡ false =
    sym (c.one_leads_nowhere.ensures ∙ ap (λ (parts : Patch). list_any test parts) c.requires) ∙ c.if-one_leads_nowhere.false in
    c.one_has_front.ensures ∙ sym (overlap_is objects ms none) ∙ ap (λ b. b || overlap (member_keys ms)) (sym none)
