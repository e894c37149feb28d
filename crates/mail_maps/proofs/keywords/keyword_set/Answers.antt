use Rattle.std.proofs.Common.{◌≡◌, ℕ, ◌+◌, ◌<◌, ◌∷◌, List, sym, ap, ◌∙◌, nat_cmp, drop, length, map, arith}
use Rattle.std.specs.List.{flat_map}
use Rattle.std.specs.Cmp.Lexicographic.{slice_cmp}
use Rattle.std.proofs.lemmas.List.{drop_more}
use Rattle.mail_maps.specs.Keywords.{sorted_into, keyword_of}
use Rattle.mail_maps.specs.reading.Sets.{set_items}
use Rattle.mail_maps.proofs.KeySets.{sorted_into-append}
use Rattle.mail_maps.proofs.keywords.keyword_set.Goals as goal

pub loop-flag-preserved : goal.loop-flag-preserved
loop-flag-preserved c =
    let flags : List (List ℕ) = c.args.flags.now in
    let i = c.loop-flag.flag-index in
    let within : i < length flags = omega (arith, c.loop-flag-test.true) in
    let flag : List ℕ = c.flag-item.result in
    let next : drop i flags ≡ flag ∷ drop (i + 1) flags = drop_more flags i flag within ∙ ap (λ (x : List ℕ). x ∷ drop (i + 1) flags) (sym c.flag-item.is) in
    let cmp = slice_cmp nat_cmp in
    let was = map set_items c.loop-flag.set.keys in
    let later = flat_map keyword_of (drop (i + 1) flags) in
    ap (λ (ks : List (List ℕ)). sorted_into cmp ks later) (c.in_ok-add_keyword.ensures ∙ ap (λ (x : List ℕ). sorted_into cmp was (keyword_of x)) c.as_slice.ensures)
    ∙ sym (sorted_into-append cmp was (keyword_of flag) later)
    ∙ ap (λ (xs : List (List ℕ)). sorted_into cmp was (flat_map keyword_of xs)) (sym next)
    ∙ c.loop-flag.invariant
