use Rattle.std.proofs.Common.{◌≡◌, ◌∙◌, List, Some, None, ap, sym, subst, arith, nat_cmp}
use Rattle.std.specs.BTreeMap.{values, is_at}
use Rattle.std.specs.Map.{lookup, values_of}
use Rattle.told_folder.specs.Folders.{uid_of}
use Rattle.told_folder.specs.Keyed.{Ascends, with_key, put_keyed}
use Rattle.told_folder.specs.Places.{IsHeldAt, IsFreeAt}
use Rattle.told_folder.specs.reading.Parts.{all_of}
use Rattle.told_folder.specs.declared.message.Message.{Message}
use Rattle.told_folder.proofs.KeyedLemmas.{ascends_put, free_found, some_is_not_none}
use Rattle.told_folder.proofs.PartLemmas.{ascends_left, flags_left, flags_right, found_self, found_right, keyed_flags, looked_up, none_under, under_found}
use Rattle.told_folder.proofs.messages.Messages.set_flags.Goals as goal

pub index_of-requires : goal.index_of-requires
index_of-requires c = rw c.as_slice.ensures.value (ascends_left c.self.inside.before.items (values c.self.inside.after) c.self.invariant.ascends)

pub invariant_of-self : goal.invariant_of-self
invariant_of-self c =
    let xs : List Message = c.self.inside.before.items in
    let vs : List Message = values c.self.inside.after in
    let y : Message = c.index_mut-message.result.now in
    let held : IsHeldAt uid_of c.args.uid xs c.in-Ok.at = rw (c.as_slice.ensures.value, c.from.ensures) at c.in-Ok.ensures in
    let put = flags_left c.args.uid xs vs c.in-Ok.at held c.self.invariant.ascends y c.index_mut-message.ensures.value c.args.flags y
    (found_self c.args.uid xs vs c.in-Ok.at held c.self.invariant.ascends y c.index_mut-message.ensures.value) in
    record {
      ascends = subst (λ (zs : List Message). Ascends uid_of zs) (sym put)
          (ascends_put uid_of (record y { flags = c.args.flags }) (all_of c.self.inside.before c.self.inside.after) c.self.invariant.ascends);
      keyed = c.self.invariant.keyed;
      room = c.self.invariant.room;
    }

pub invariant_of-self-in-Some : goal.invariant_of-self-in-Some
invariant_of-self-in-Some c =
    let xs : List Message = c.self.inside.before.items in
    let es = c.self.inside.after.entries in
    let y : Message = c.in-Some.message.now in
    let at_y : lookup (is_at (nat_cmp c.args.uid)) es ≡ Some y = sym c.in-Some.ensures.value in
    let written = c.get_mut.follows.holds (record y { flags = c.args.flags }) in
    let found : with_key uid_of c.args.uid (values_of es) ≡ Some y = sym (looked_up c.args.uid es c.self.invariant.keyed) ∙ at_y in
    let put = flags_right c.args.uid xs es _ c.self.invariant.keyed c.self.invariant.ascends y at_y c.args.flags written.0 y
    (found_right c.args.uid xs (values_of es) (none_under c.args.uid xs (under_found c.args.uid xs (values_of es) y c.self.invariant.ascends found)) ∙ found) in
    record {
      ascends = subst (λ (zs : List Message). Ascends uid_of zs) (sym put)
          (ascends_put uid_of (record y { flags = c.args.flags }) (all_of c.self.inside.before c.self.inside.after) c.self.invariant.ascends);
      keyed = keyed_flags c.args.uid es _ c.self.invariant.keyed y at_y c.args.flags written.0;
      room = omega (arith, written.2, c.self.invariant.room);
    }

pub returns-in-Ok-clause-held : goal.returns-in-Ok-clause-held
returns-in-Ok-clause-held c = λ x found.
    let xs : List Message = c.self.inside.before.items in
    let vs : List Message = values c.self.inside.after in
    let held : IsHeldAt uid_of c.args.uid xs c.in-Ok.at = rw (c.as_slice.ensures.value, c.from.ensures) at c.in-Ok.ensures in
    let all : all_of c.self.inside.before c.self.inside.after ≡ c.args.self.now = c.self.view_is in
    flags_left c.args.uid xs vs c.in-Ok.at held c.self.invariant.ascends c.index_mut-message.result.now c.index_mut-message.ensures.value c.args.flags x
    (ap (λ (zs : List Message). with_key uid_of c.args.uid zs) all ∙ found)
    ∙ ap (λ (zs : List Message). put_keyed uid_of (record x { flags = c.args.flags }) zs) all

pub returns-in-Some-clause-held : goal.returns-in-Some-clause-held
returns-in-Some-clause-held c = λ x found.
    let xs : List Message = c.self.inside.before.items in
    let es = c.self.inside.after.entries in
    let all : all_of c.self.inside.before c.self.inside.after ≡ c.args.self.now = c.self.view_is in
    let written = c.get_mut.follows.holds (record c.in-Some.message.now { flags = c.args.flags }) in
    flags_right c.args.uid xs es _ c.self.invariant.keyed c.self.invariant.ascends c.in-Some.message.now (sym c.in-Some.ensures.value) c.args.flags written.0 x
    (ap (λ (zs : List Message). with_key uid_of c.args.uid zs) all ∙ found)
    ∙ ap (λ (zs : List Message). put_keyed uid_of (record x { flags = c.args.flags }) zs) all

pub returns-in_default-clause-held : goal.returns-in_default-clause-held
returns-in_default-clause-held c = λ x found.
    let xs : List Message = c.self.inside.before.items in
    let es = c.self.inside.after.entries in
    let free : IsFreeAt uid_of c.args.uid xs c.in-Err.field-0 = rw (c.as_slice.ensures.value, c.from.ensures) at c.in-Err.ensures in
    let left : with_key uid_of c.args.uid xs ≡ None = sym (free_found uid_of c.args.uid xs (ascends_left xs (values_of es) c.self.invariant.ascends) c.in-Err.field-0 free) in
    let right : with_key uid_of c.args.uid (values_of es) ≡ None = sym (looked_up c.args.uid es c.self.invariant.keyed) ∙ sym c.in_default.ensures.value in
    let all : all_of c.self.inside.before c.self.inside.after ≡ c.args.self.now = c.self.view_is in
    absurd (some_is_not_none x (sym found ∙ ap (λ (zs : List Message). with_key uid_of c.args.uid zs) (sym all) ∙ found_right c.args.uid xs (values_of es) left ∙ right))

pub returns-in-Ok-clause-none : goal.returns-in-Ok-clause-none
returns-in-Ok-clause-none c = λ none.
    let xs : List Message = c.self.inside.before.items in
    let vs : List Message = values c.self.inside.after in
    let held : IsHeldAt uid_of c.args.uid xs c.in-Ok.at = rw (c.as_slice.ensures.value, c.from.ensures) at c.in-Ok.ensures in
    let all : all_of c.self.inside.before c.self.inside.after ≡ c.args.self.now = c.self.view_is in
    let found = found_self c.args.uid xs vs c.in-Ok.at held c.self.invariant.ascends c.index_mut-message.result.now c.index_mut-message.ensures.value in
    absurd (some_is_not_none _ (sym found ∙ ap (λ (zs : List Message). with_key uid_of c.args.uid zs) all ∙ none))

pub returns-in-Some-clause-none : goal.returns-in-Some-clause-none
returns-in-Some-clause-none c = λ none.
    let xs : List Message = c.self.inside.before.items in
    let es = c.self.inside.after.entries in
    let y : Message = c.in-Some.message.now in
    let all : all_of c.self.inside.before c.self.inside.after ≡ c.args.self.now = c.self.view_is in
    let found : with_key uid_of c.args.uid (values_of es) ≡ Some y = sym (looked_up c.args.uid es c.self.invariant.keyed) ∙ sym c.in-Some.ensures.value in
    let whole = found_right c.args.uid xs (values_of es) (none_under c.args.uid xs (under_found c.args.uid xs (values_of es) y c.self.invariant.ascends found)) ∙ found in
    absurd (some_is_not_none _ (sym whole ∙ ap (λ (zs : List Message). with_key uid_of c.args.uid zs) all ∙ none))
