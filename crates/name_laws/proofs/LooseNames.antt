-- No name of an address, as far as it reads, has a control character.
use Rattle.std.proofs.Common.{ℕ, false, List, [], ◌∷◌, sym, subst, Option, Some, None, option_to_list}
use Rattle.std.specs.List.{AllZip, flat_map}
use Rattle.header_words.specs.OneLine.{one_line}
use Rattle.header_words.specs.declared.encoded_word.Edges.TheVariants as edges
use Rattle.mail_header.specs.RawForms.{raw_form}
use Rattle.header_addresses.specs.declared.address.Address.{Address}
use Rattle.header_addresses.specs.declared.address.Group.{Group}
use Rattle.loose_addresses.specs.LooseForms as loose
use Rattle.loose_addresses.specs.LooseForms.{IsLooseAddressesForm, IsLooseGroupsForm, one_group, some_list}
use Rattle.loose_addresses.specs.LooseLists.{trimmed, IsNameBefore, Phrase, AsItStands, ReadsAs, Strict, InAngle, Bare, PassedOver, IsElementRead, AreLoose}
use Rattle.name_laws.specs.CleanNames.{IsCleanName, HaveCleanNames, AreCleanGroups}
use Rattle.name_laws.proofs.AddressNames.{clean_trimmed, clean_some, clean_addresses, clean_groups, clean_one, clean_phrase_name, names_both}
use Rattle.name_laws.proofs.CleanTexts.{clean_line, clean_text}

clean_before : (before : List ℕ) (name : Option (List ℕ)) → IsNameBefore before name → IsCleanName name
clean_before before _ (Phrase name p u) = clean_phrase_name name before p
clean_before before _ (AsItStands n text i) = clean_some (trimmed text) (clean_trimmed text (clean_text edges.Quotes false (one_line before) text i (clean_line before)))

clean_read : (t : List ℕ) (a : Option Address) → ReadsAs t a → HaveCleanNames (option_to_list a)
clean_read t _ (Strict a o u) = (clean_one a t o, tt)
clean_read t _ (InAngle before x name email n g i j) = (clean_before before name i, tt)
clean_read t _ (Bare n g b) = (tt, tt)
clean_read t _ (PassedOver n g b) = tt

clean_all : (es : List (List ℕ)) (read : List (Option Address)) → AllZip IsElementRead es read → HaveCleanNames (flat_map option_to_list read)
clean_all [] [] z = tt
clean_all [] (a ∷ read) z = absurd z
clean_all (e ∷ es) [] z = absurd z
clean_all (e ∷ es) (a ∷ read) z = names_both (option_to_list a) (flat_map option_to_list read) (clean_read z.0.rest a z.0.reads) (clean_all es read z.1)

clean_loose : (list : List Address) (t : List ℕ) → AreLoose list t → HaveCleanNames list
clean_loose list t l = subst (λ (u : List Address). HaveCleanNames u) (sym l.addresses_are) (clean_all _ l.read l.each)

AreCleanIn : Option (List Address) → Type 0
AreCleanIn None = Unit {0}
AreCleanIn (Some list) = HaveCleanNames list

AreCleanGroupsIn : Option (List Group) → Type 0
AreCleanGroupsIn None = Unit {0}
AreCleanGroupsIn (Some list) = AreCleanGroups list

clean_list : (list : List Address) → HaveCleanNames list → AreCleanIn (some_list list)
unfolding AreCleanIn
clean_list [] h = tt
clean_list (a ∷ list) h = h

clean_one_group : (list : List Address) → HaveCleanNames list → AreCleanGroupsIn (one_group list)
unfolding AreCleanGroupsIn
clean_one_group [] h = tt
clean_one_group (a ∷ list) h = ((tt, h), tt)

addresses_in : (raw : List ℕ) (r : Option (List Address)) → IsLooseAddressesForm raw r → AreCleanIn r
unfolding AreCleanIn
addresses_in raw _ (loose.ByGrammar list f u) = clean_addresses raw list f
addresses_in raw _ (loose.AsFar n list l) = clean_list list (clean_loose list (raw_form raw) l)

groups_in : (raw : List ℕ) (r : Option (List Group)) → IsLooseGroupsForm raw r → AreCleanGroupsIn r
unfolding AreCleanGroupsIn
groups_in raw _ (loose.GroupsByGrammar list f u) = clean_groups raw list f
groups_in raw _ (loose.GroupsAsFar n list l) = clean_one_group list (clean_loose list (raw_form raw) l)

-- the names of addresses
pub clean_loose_addresses : (raw : List ℕ) (list : List Address) → IsLooseAddressesForm raw (Some list) → HaveCleanNames list
unfolding AreCleanIn
clean_loose_addresses raw list h = addresses_in raw (Some list) h

-- those of groups and of their members
pub clean_loose_groups : (raw : List ℕ) (list : List Group) → IsLooseGroupsForm raw (Some list) → AreCleanGroups list
unfolding AreCleanGroupsIn
clean_loose_groups raw list h = groups_in raw (Some list) h
