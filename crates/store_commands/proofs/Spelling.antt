-- The parts of a command are what the grammar says of it, so it is read as what it is.
use Rattle.std.proofs.Common.{ℕ, Bool, true, false, List, [], ◌∷◌, ◌++◌, refl, sym, ap, subst, ◌∙◌, append_assoc, inl, inr}
use Rattle.imap_types.specs.declared.command.Command.{Command}
use Rattle.imap_types.specs.declared.command.Command.TheVariants as command
use Rattle.command_parts.specs.declared.no_command.NoCommand.TheVariants.{NeedMore}
use Rattle.command_parts.specs.declared.fixed_text.FixedText.{FixedText}
use Rattle.command_parts.specs.declared.fixed_text.FixedText.TheVariants as word
use Rattle.store_commands.specs.reading.Commands.{command_at}
use Rattle.command_parts.proofs.Readers.{IsReader}
use Rattle.command_parts.proofs.Chains.{same_reader}
use Rattle.command_parts.proofs.Choosing.{OneOf}
use Rattle.store_commands.proofs.Answering.{Commands}
use Rattle.store_commands.proofs.CommandReading.{Arguments, commands, CommandParts, parts_reader}
use Rattle.store_commands.proofs.FolderSpelling.{Asks, Spelled, login_forth, login_back, create_forth, create_back, delete_forth, delete_back, subscribe_forth, subscribe_back}
use Rattle.store_commands.proofs.FolderSpelling.{unsubscribe_forth, unsubscribe_back, rename_forth, rename_back, capability_forth, capability_back, enable_forth, enable_back}
use Rattle.store_commands.proofs.FolderSpelling.{unselect_forth, unselect_back, list_forth, list_atom_forth, list_subscribed_forth, list_atom_subscribed_forth}
use Rattle.store_commands.proofs.FolderSpelling.{list_special_use_forth, list_atom_special_use_forth, ListSpelled}
use Rattle.store_commands.proofs.FolderSpelling.{list_back}
use Rattle.store_commands.proofs.SelectSpelling.{select_forth, select_back, append_forth, append_back}
use Rattle.store_commands.proofs.MessageSpelling.{expunge_forth, expunge_back, move_forth, move_back, store_forth, store_back}
use Rattle.store_commands.proofs.FetchSpelling.{fetch_forth, new_back, flags_back, slice_back, body_back}

abbrev Forth : FixedText → Type 0
Forth w = (c : Command) (r : List ℕ) → Spelled w (Arguments w) c r → Asks c r

forth : (w : FixedText) → OneOf w commands → Forth w
forth w (inl e) = subst Forth (sym e) capability_forth
forth w (inr (inl e)) = subst Forth (sym e) login_forth
forth w (inr (inr (inl e))) = subst Forth (sym e) enable_forth
forth w (inr (inr (inr (inl e)))) = subst Forth (sym e) list_forth
forth w (inr (inr (inr (inr (inl e))))) = subst Forth (sym e) list_atom_forth
forth w (inr (inr (inr (inr (inr (inl e)))))) = subst Forth (sym e) list_subscribed_forth
forth w (inr (inr (inr (inr (inr (inr (inl e))))))) = subst Forth (sym e) list_atom_subscribed_forth
forth w (inr (inr (inr (inr (inr (inr (inr (inl e)))))))) = subst Forth (sym e) list_special_use_forth
forth w (inr (inr (inr (inr (inr (inr (inr (inr (inl e))))))))) = subst Forth (sym e) list_atom_special_use_forth
forth w (inr (inr (inr (inr (inr (inr (inr (inr (inr (inl e)))))))))) = subst Forth (sym e) select_forth
forth w (inr (inr (inr (inr (inr (inr (inr (inr (inr (inr (inl e))))))))))) = subst Forth (sym e) unselect_forth
forth w (inr (inr (inr (inr (inr (inr (inr (inr (inr (inr (inr (inl e)))))))))))) = subst Forth (sym e) fetch_forth
forth w (inr (inr (inr (inr (inr (inr (inr (inr (inr (inr (inr (inr (inl e))))))))))))) = subst Forth (sym e) store_forth
forth w (inr (inr (inr (inr (inr (inr (inr (inr (inr (inr (inr (inr (inr (inl e)))))))))))))) = subst Forth (sym e) move_forth
forth w (inr (inr (inr (inr (inr (inr (inr (inr (inr (inr (inr (inr (inr (inr (inl e))))))))))))))) = subst Forth (sym e) expunge_forth
forth w (inr (inr (inr (inr (inr (inr (inr (inr (inr (inr (inr (inr (inr (inr (inr (inl e)))))))))))))))) = subst Forth (sym e) append_forth
forth w (inr (inr (inr (inr (inr (inr (inr (inr (inr (inr (inr (inr (inr (inr (inr (inr (inl e))))))))))))))))) = subst Forth (sym e) create_forth
forth w (inr (inr (inr (inr (inr (inr (inr (inr (inr (inr (inr (inr (inr (inr (inr (inr (inr (inl e)))))))))))))))))) = subst Forth (sym e) delete_forth
forth w (inr (inr (inr (inr (inr (inr (inr (inr (inr (inr (inr (inr (inr (inr (inr (inr (inr (inr (inl e))))))))))))))))))) = subst Forth (sym e) rename_forth
forth w (inr (inr (inr (inr (inr (inr (inr (inr (inr (inr (inr (inr (inr (inr (inr (inr (inr (inr (inr (inl e)))))))))))))))))))) = subst Forth (sym e) subscribe_forth
forth w (inr (inr (inr (inr (inr (inr (inr (inr (inr (inr (inr (inr (inr (inr (inr (inr (inr (inr (inr (inr (inl e))))))))))))))))))))) = subst Forth (sym e) unsubscribe_forth
forth w (inr (inr (inr (inr (inr (inr (inr (inr (inr (inr (inr (inr (inr (inr (inr (inr (inr (inr (inr (inr (inr i))))))))))))))))))))) = absurd i

-- the text with which a command begins, and its arguments
abbrev Back : Command → List ℕ → Type 0
Back c r = (w : FixedText) × OneOf w commands × Spelled w (Arguments w) c r

list_word : (special_use : Bool) (r : List ℕ) → ListSpelled special_use r → Back (command.List special_use) r
list_word false r (inl h) = (word.List, inr (inr (inr (inl refl))), h)
list_word false r (inr (inl h)) = (word.ListAtom, inr (inr (inr (inr (inl refl)))), h)
list_word false r (inr (inr (inl h))) = (word.ListSubscribed, inr (inr (inr (inr (inr (inl refl))))), h)
list_word false r (inr (inr (inr h))) = (word.ListAtomSubscribed, inr (inr (inr (inr (inr (inr (inl refl)))))), h)
list_word true r (inl h) = (word.ListSpecialUse, inr (inr (inr (inr (inr (inr (inr (inl refl))))))), h)
list_word true r (inr h) = (word.ListAtomSpecialUse, inr (inr (inr (inr (inr (inr (inr (inr (inl refl)))))))), h)

fetch_one : OneOf word.Fetch commands
fetch_one = inr (inr (inr (inr (inr (inr (inr (inr (inr (inr (inr (inl refl)))))))))))

back : (c : Command) (r : List ℕ) → Asks c r → Back c r
back command.Capability r h = (word.Capability, inl refl, capability_back r h)
back (command.Login u p) r h = (word.Login, inr (inl refl), login_back u p r h)
back command.Enable r h = (word.Enable, inr (inr (inl refl)), enable_back r h)
back (command.List special_use) r h = list_word special_use r (list_back special_use r h)
back (command.Select name known) r h = (word.Select, inr (inr (inr (inr (inr (inr (inr (inr (inr (inl refl))))))))), select_back name known r h)
back command.Unselect r h = (word.Unselect, inr (inr (inr (inr (inr (inr (inr (inr (inr (inr (inl refl)))))))))), unselect_back r h)
back command.FetchFlags r h = (word.Fetch, fetch_one, flags_back r h)
back (command.FetchSlice from to modseq) r h = (word.Fetch, fetch_one, slice_back from to modseq r h)
back (command.FetchNew from modseq) r h = (word.Fetch, fetch_one, new_back from modseq r h)
back (command.FetchBody uid) r h = (word.Fetch, fetch_one, body_back uid r h)
back (command.Store uid add fs) r h = (word.Store, inr (inr (inr (inr (inr (inr (inr (inr (inr (inr (inr (inr (inl refl)))))))))))), store_back uid add fs r h)
back (command.Move uid name) r h = (word.Move, inr (inr (inr (inr (inr (inr (inr (inr (inr (inr (inr (inr (inr (inl refl))))))))))))), move_back uid name r h)
back (command.Expunge uid) r h = (word.Expunge, inr (inr (inr (inr (inr (inr (inr (inr (inr (inr (inr (inr (inr (inr (inl refl)))))))))))))), expunge_back uid r h)
back (command.Append name fs date message) r h =
    (word.Append, inr (inr (inr (inr (inr (inr (inr (inr (inr (inr (inr (inr (inr (inr (inr (inl refl))))))))))))))), append_back name fs date message r h)
back (command.Create name) r h = (word.Create, inr (inr (inr (inr (inr (inr (inr (inr (inr (inr (inr (inr (inr (inr (inr (inr (inl refl)))))))))))))))), create_back name r h)
back (command.Delete name) r h = (word.Delete, inr (inr (inr (inr (inr (inr (inr (inr (inr (inr (inr (inr (inr (inr (inr (inr (inr (inl refl))))))))))))))))), delete_back name r h)
back (command.Rename from to) r h =
    (word.Rename, inr (inr (inr (inr (inr (inr (inr (inr (inr (inr (inr (inr (inr (inr (inr (inr (inr (inr (inl refl)))))))))))))))))), rename_back from to r h)
back (command.Subscribe name true) r h =
    (word.Subscribe, inr (inr (inr (inr (inr (inr (inr (inr (inr (inr (inr (inr (inr (inr (inr (inr (inr (inr (inr (inl refl))))))))))))))))))), subscribe_back name r h)
back (command.Subscribe name false) r h =
    (word.Unsubscribe, inr (inr (inr (inr (inr (inr (inr (inr (inr (inr (inr (inr (inr (inr (inr (inr (inr (inr (inr (inr (inl refl)))))))))))))))))))), unsubscribe_back name r h)

parts_text : (v : List ℕ × Command) (t : List ℕ) → CommandParts v t → Commands v t
parts_text v t h =
    let th = h.1 in
    let w = th.second in
    let c = w.1.second in
    subst (λ (x : List ℕ × Command). Commands x t) (sym c.2) (record {
      rest = th.back;
      whole = th.whole ∙ ap (λ (u : List ℕ). u ++ th.back) th.first.0 ∙ append_assoc h.0 (32 ∷ []) th.back;
      tag_is = th.first.1;
      asks = forth w.0 w.1.first.0 c.0 th.back (w.1.front, w.1.back, w.1.whole, w.1.first.1, c.1);
    })

text_parts : (v : List ℕ × Command) (t : List ℕ) → Commands v t → CommandParts v t
text_parts v t h =
    let b = back v.1 h.rest h.asks in (
      v.0,
      record {
        front = v.0 ++ 32 ∷ [];
        back = h.rest;
        whole = h.whole ∙ sym (append_assoc v.0 (32 ∷ []) h.rest);
        first = (refl, h.tag_is);
        second = (
          b.0,
          record {
            front = b.2.0;
            back = b.2.1;
            whole = b.2.2;
            first = (b.1, b.2.3);
            second = (v.1, b.2.4, refl);
          },
        );
      },
    )

-- commands are read
pub command_reader : IsReader NeedMore Commands command_at
command_reader = same_reader NeedMore CommandParts Commands command_at parts_text text_parts parts_reader
