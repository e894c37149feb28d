-- What laws promise of replies.
use Rattle.std.specs.Prelude.{◌≡◌, ℕ, ◌⊎◌, true, List, All, Contains, is_some}
use Rattle.serde_json.specs.Data.{string, Members}
use Rattle.serde_json.specs.Find.{get_member}
use Rattle.set_arguments.specs.declared.set_method.SetMethod.{SetMethod}
use Rattle.set_jobs.specs.declared.done.Done.{Done}
use Rattle.set_jobs.specs.declared.done.Done.TheVariants.{Made, MadeMailbox, Changed, Gone, Not}
use Rattle.set_order.specs.Ordered.{Item, Create, Circle, Update, Destroy, item_key}
use Rattle.set_replies.specs.Lists.{Lists, id_of}

abbrev pub HasName : List ℕ → Members → Type 0
HasName name ms = is_some (get_member name ms) ≡ true

-- where items of its kind stand that were refused
abbrev pub refused_of : Item → Lists → Members
refused_of (Create key ms) l = l.not_created
refused_of (Circle key) l = l.not_created
refused_of (Update key ms) l = l.not_updated
refused_of (Destroy text) l = l.not_destroyed

abbrev pub IsRefused : Item → Lists → Type 0
IsRefused item l = HasName (item_key item) (refused_of item l)

abbrev pub IsCreated : Item → Lists → Type 0
IsCreated item l = HasName (item_key item) l.created

-- what an item came to stands in a list for it: what was made is created, or refused where it is gone again
abbrev pub IsAnswered : SetMethod → Lists → Item → Done → Type 0
IsAnswered m l item (Made mark size) = IsCreated item l ⊎ IsRefused item l
IsAnswered m l item (MadeMailbox n) = IsCreated item l ⊎ IsRefused item l
IsAnswered m l item (Changed n asked) = HasName (id_of m n) l.updated
IsAnswered m l item (Gone n) = Contains l.destroyed (string (id_of m n))
IsAnswered m l item (Not e) = IsRefused item l

abbrev pub AreAnswered : SetMethod → Lists → List (Item × Done) → Type 0
AreAnswered m l done = All (λ (e : Item × Done). IsAnswered m l e.0 e.1) done
