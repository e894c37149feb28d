use Rattle.std.proofs.Common.{◌≡◌, ◌∙◌, ◌<◌, ◌≤◌, ◌+◌, ◌++◌, ◌∷◌, [], ℕ, List, Option, length, take, drop, map, sym, ap, subst, arith}
use Rattle.std.proofs.lemmas.List.{take_more, take_all, take-append-drop}
use Rattle.told_folder.specs.Folders.{folder_number}
use Rattle.told_folder.specs.Index.{Inverts}
use Rattle.told_folder.specs.Keyed.{Ascends}
use Rattle.told_folder.specs.declared.message.NumberedFolder.{NumberedFolder}
use Rattle.told_folder.proofs.StepLemmas.{left}
use Rattle.told_mail.specs.Renames.{names_given}
use Rattle.told_mail.specs.reading.Index.{name_in, AreNumbers}
use Rattle.told_mail.specs.reading.Names.{place_in}
use Rattle.told_mail.specs.reading.Renaming.{name_of, named_by}
use Rattle.told_mail.proofs.OnceLemmas.{NamesDiffer}
use Rattle.told_mail.proofs.RenameLemmas.{names_renamed, numbers_more, names_more}
use Rattle.told_mail.proofs.renames.renamed.Goals as goal

pub loop-held-preserved : goal.loop-held-preserved
loop-held-preserved c =
    let from : List ℕ = c.args.from.now in
    let to : List ℕ = c.args.to.now in
    let hs : List NumberedFolder = c.args.folders.now in
    let i : ℕ = c.loop-held.held-index in
    let h : NumberedFolder = c.held-item.result in
    let within : i < length hs = omega (arith, c.loop-held-test.true) in
    let name : NumberedFolder → Option (List ℕ) = name_of from to hs in
    let takes : c.in_ok-name.name ≡ name h = c.in_ok-name.ensures (names_given from to hs) c.requires in
    let fs : List NumberedFolder = take i hs in
    let rest : List NumberedFolder = drop (i + 1) hs in
    let parts : hs ≡ fs ++ h ∷ rest = sym (take-append-drop i hs) ∙ ap (λ (zs : List NumberedFolder). fs ++ zs) (left hs i h within c.held-item.is) in
    let more : take (i + 1) hs ≡ fs ++ h ∷ [] = take_more hs i h within ∙ ap (λ (m : NumberedFolder). fs ++ m ∷ []) (sym c.held-item.is) in
    record {
      names = c.in_ok-push_back.ensures.items
          ∙ (ap (λ (ns : List (Option (List ℕ))). ns ++ c.in_ok-name.name ∷ []) c.loop-held.invariant.names
          ∙ (ap (λ (n : Option (List ℕ)). map name fs ++ n ∷ []) takes ∙ sym (names_more name hs i h within c.held-item.is)));
      len = omega (arith, c.in_ok-push_back.ensures.len, c.loop-held.invariant.len);
      numbers = λ nm nf mail.
          let up : Ascends folder_number (fs ++ h ∷ rest) = subst (Ascends folder_number) parts mail.numbers in
          let differ : NamesDiffer (named_by name (fs ++ h ∷ rest)) =
          subst (λ (zs : List NumberedFolder). NamesDiffer (named_by name zs)) parts (names_renamed from to hs mail.numbers mail.names) in
          subst (λ (zs : List NumberedFolder). Inverts (place_in c.put_number.new.numbers) (name_in (named_by name zs))) (sym more)
          (numbers_more name fs rest h up differ (place_in c.loop-held.numbers) (place_in c.put_number.new.numbers) (c.loop-held.invariant.numbers nm nf mail)
          (λ q e. c.in_ok-put_number.ensures.some q (takes ∙ e)) (λ e. c.in_ok-put_number.ensures.none (takes ∙ e)));
    }

pub returns-clause-numbers : goal.returns-clause-numbers
returns-clause-numbers c = λ nm nf mail.
    let hs : List NumberedFolder = c.args.folders.now in
    let i : ℕ = c.loop-held.held-index in
    let all : length hs ≤ i = omega (arith, c.loop-held-test.false) in
    subst (λ (zs : List NumberedFolder). AreNumbers (named_by (name_of c.args.from.now c.args.to.now hs) zs) c.loop-held.numbers) (take_all i hs all) (c.loop-held.invariant.numbers nm nf mail)
