use Rattle.std.proofs.Common.{Bool, ◌≡◌, ℕ, List, not, length, arith, nat_cmp, refl, sym, ap, ◌∙◌, subst}
use Rattle.std.specs.BTreeMap.{get}
use Rattle.told_folder.specs.Folders.{uid_of}
use Rattle.told_folder.specs.Keyed.{Ascends}
use Rattle.told_folder.specs.Tell.{without_those}
use Rattle.told_folder.specs.FolderTelling.{cleared}
use Rattle.told_folder.specs.declared.message.Message.{Message}
use Rattle.told_folder.proofs.VanishLemmas.{vanish_goes, filter_whole, ascends_without}
use Rattle.told_folder.proofs.telling.tell_gone.Goals as goal

pub returns-then-left-before : goal.returns-then-left-before
returns-then-left-before g c =
    let xs : List Message = c.args.work.now.messages in
    let gone : ℕ → Bool = g.U.Uids.has c.args.gone.now in
    let all : c.into_vec-messages.result.items ≡ xs = c.into_vec-messages.ensures ∙ c.replace.ensures.value in
    let kept : c.clear_messages.new.messages.items ≡ without_those gone xs = c.clear_messages.ensures ∙ ap (λ (zs : List Message). without_those gone zs) all in
    let now : c.new-2.result ≡ without_those gone xs = c.new-2.ensures ∙ kept in
    let clear : (q : ℕ) → get nat_cmp c.clear_marks.new.marks q ≡ cleared gone xs q (get nat_cmp c.args.work.now.marks q) =
    rw (c.as_slice.ensures.value, c.into_vec-messages.ensures, c.replace.ensures.value) at c.clear_marks.ensures in
    vanish_goes _ _ gone c.requires (record {
      folder = refl;
      rises = omega (arith, c.one_more-work.ensures);
      stands = λ e l. absurd (omega (arith, e, l, c.one_more-work.ensures));
      draws = λ e l. refl;
    }) (λ e. let same : length c.clear_messages.new.messages.items ≡ length xs = ap length (kept ∙ e) in
    absurd (omega (arith, same, c.if-left-before.true, c.clear_messages.new.messages.ok, c.into_vec-messages.result.ok, c.len-before.ensures, c.len-left.ensures, ap length all)))
    now refl clear

pub returns-else-left-before : goal.returns-else-left-before
returns-else-left-before g c =
    let xs : List Message = c.args.work.now.messages in
    let gone : ℕ → Bool = g.U.Uids.has c.args.gone.now in
    let all : c.into_vec-messages.result.items ≡ xs = c.into_vec-messages.ensures ∙ c.replace.ensures.value in
    let kept : c.clear_messages.new.messages.items ≡ without_those gone xs = c.clear_messages.ensures ∙ ap (λ (zs : List Message). without_those gone zs) all in
    let now : c.new-2.result ≡ without_those gone xs = c.new-2.ensures ∙ kept in
    let clear : (q : ℕ) → get nat_cmp c.clear_marks.new.marks q ≡ cleared gone xs q (get nat_cmp c.args.work.now.marks q) =
    rw (c.as_slice.ensures.value, c.into_vec-messages.ensures, c.replace.ensures.value) at c.clear_marks.ensures in
    let len_same : length c.clear_messages.new.messages.items ≡ length xs = omega
    (arith, c.clear_messages.new.messages.ok, c.into_vec-messages.result.ok, c.len-before.ensures, c.len-left.ensures, ap length all) in
    vanish_goes _ _ gone c.requires (record {
      folder = refl;
      rises = omega arith;
      stands = λ e l. now
          ∙ filter_whole (λ (x : Message). not (gone x.uid)) xs (ap length (sym kept) ∙ len_same);
      draws = λ e l. refl;
    }) (λ e. refl) now refl clear

pub new-requires-2 : goal.new-requires-2
new-requires-2 g c =
    let xs : List Message = c.args.work.now.messages in
    let gone : ℕ → Bool = g.U.Uids.has c.args.gone.now in
    let all : c.into_vec-messages.result.items ≡ xs = c.into_vec-messages.ensures ∙ c.replace.ensures.value in
    subst (λ (zs : List Message). Ascends uid_of zs) (sym (c.clear_messages.ensures ∙ ap (λ (zs : List Message). without_those gone zs) all)) (ascends_without gone xs c.requires)
