-- Words are read as a page exactly where they ask for it.
use Rattle.std.proofs.Common.{◌≡◌, ◌⊎◌, inl, inr, ℕ, List, [], ◌∷◌, Some, refl, sym, ap, ◌∙◌, codes}
use Rattle.std.proofs.lemmas.Option.{none-some, same_Some}
use Rattle.gate_words.specs.reading.Words.{page_by, page_on, page_of}
use Rattle.gate_words.specs.Task.{AsksFor}
use Rattle.gate_words.specs.declared.page.Page.{Page}
use Rattle.gate_words.specs.declared.page.Page.TheVariants.{Program, Serve, Once, Show, Store, Check, Version}
use Rattle.octets.proofs.Steps.{and_then-some, is_or_not}

by-is : (option : List ℕ) (on found : Page) → page_by option on ≡ Some found → ((option ≡ codes "--help") × (found ≡ on)) ⊎ ((option ≡ codes "--version") × (found ≡ Version))
by-is option on found is =
    elim (is_or_not option (codes "--help")) [
      | inl help ↦ inl (help, same_Some found on (sym is ∙ ap (λ (o : List ℕ). page_by o on) help))
      | inr no_help ↦ elim (is_or_not option (codes "--version")) [
        | inl version ↦ inr (version, same_Some found Version (sym is ∙ ap (λ (o : List ℕ). page_by o on) version))
        | inr no_version ↦ absurd (none-some found (rw (no_help, no_version) at is))
      ]
    ]

on-is : (command : List ℕ) (found : Page) → page_on command ≡ Some found
    → ((command ≡ codes "serve") × (found ≡ Serve)) ⊎ ((command ≡ codes "once") × (found ≡ Once)) ⊎ ((command ≡ codes "show") × (found ≡ Show))
    ⊎ ((command ≡ codes "store") × (found ≡ Store)) ⊎ ((command ≡ codes "check") × (found ≡ Check))
on-is command found is =
    elim (is_or_not command (codes "serve")) [
      | inl serve ↦ inl (serve, same_Some found Serve (sym is ∙ ap page_on serve))
      | inr no_serve ↦ elim (is_or_not command (codes "once")) [
        | inl once ↦ inr (inl (once, same_Some found Once (sym is ∙ ap page_on once)))
        | inr no_once ↦ elim (is_or_not command (codes "show")) [
          | inl show ↦ inr (inr (inl (show, same_Some found Show (sym is ∙ ap page_on show))))
          | inr no_show ↦ elim (is_or_not command (codes "store")) [
            | inl store ↦ inr (inr (inr (inl (store, same_Some found Store (sym is ∙ ap page_on store)))))
            | inr no_store ↦ elim (is_or_not command (codes "check")) [
              | inl check ↦ inr (inr (inr (inr (check, same_Some found Check (sym is ∙ ap page_on check)))))
              | inr no_check ↦ absurd (none-some found (rw (no_serve, no_once, no_show, no_store, no_check) at is))
            ]
          ]
        ]
      ]
    ]

-- a command and an option, whatever they are
after-command : (command option : List ℕ) (on found : Page)
    → ((command ≡ codes "serve") × (on ≡ Serve)) ⊎ ((command ≡ codes "once") × (on ≡ Once)) ⊎ ((command ≡ codes "show") × (on ≡ Show))
    ⊎ ((command ≡ codes "store") × (on ≡ Store)) ⊎ ((command ≡ codes "check") × (on ≡ Check))
    → ((option ≡ codes "--help") × (found ≡ on)) ⊎ ((option ≡ codes "--version") × (found ≡ Version)) → AsksFor found (command ∷ option ∷ [])
after-command command option on found (inl c) (inl o) = rw (c.0, o.0, o.1, c.1) refl
after-command command option on found (inl c) (inr o) = rw (c.0, o.0, o.1) (inr (inl refl))
after-command command option on found (inr (inl c)) (inl o) = rw (c.0, o.0, o.1, c.1) refl
after-command command option on found (inr (inl c)) (inr o) = rw (c.0, o.0, o.1) (inr (inr (inl refl)))
after-command command option on found (inr (inr (inl c))) (inl o) = rw (c.0, o.0, o.1, c.1) refl
after-command command option on found (inr (inr (inl c))) (inr o) = rw (c.0, o.0, o.1) (inr (inr (inr (inl refl))))
after-command command option on found (inr (inr (inr (inl c)))) (inl o) = rw (c.0, o.0, o.1, c.1) refl
after-command command option on found (inr (inr (inr (inl c)))) (inr o) = rw (c.0, o.0, o.1) (inr (inr (inr (inr (inl refl)))))
after-command command option on found (inr (inr (inr (inr c)))) (inl o) = rw (c.0, o.0, o.1, c.1) refl
after-command command option on found (inr (inr (inr (inr c)))) (inr o) = rw (c.0, o.0, o.1) (inr (inr (inr (inr (inr refl)))))

alone : (option : List ℕ) (found : Page) → ((option ≡ codes "--help") × (found ≡ Program)) ⊎ ((option ≡ codes "--version") × (found ≡ Version)) → AsksFor found (option ∷ [])
alone option found (inl o) = rw (o.0, o.1) refl
alone option found (inr o) = rw (o.0, o.1) (inl refl)

-- words that are read as a page ask for it
pub page-asked : (words : List (List ℕ)) (found : Page) → page_of words ≡ Some found → AsksFor found words
page-asked [] found is = absurd (none-some found is)
page-asked (option ∷ []) found is = alone option found (by-is option Program found is)
page-asked (command ∷ option ∷ []) found is =
    let on = and_then-some (page_by option) (page_on command) found is in
    after-command command option on.0 found (on-is command on.0 on.1) (by-is option on.0 found on.2)
page-asked (command ∷ option ∷ word ∷ words) found is = absurd (none-some found is)

-- words that ask for a page are read as it
pub asked-page : (page : Page) (words : List (List ℕ)) → AsksFor page words → page_of words ≡ Some page
asked-page Program words is = ap page_of is
asked-page Version words (inl is) = ap page_of is
asked-page Version words (inr (inl is)) = ap page_of is
asked-page Version words (inr (inr (inl is))) = ap page_of is
asked-page Version words (inr (inr (inr (inl is)))) = ap page_of is
asked-page Version words (inr (inr (inr (inr (inl is))))) = ap page_of is
asked-page Version words (inr (inr (inr (inr (inr is))))) = ap page_of is
asked-page Serve words is = ap page_of is
asked-page Once words is = ap page_of is
asked-page Show words is = ap page_of is
asked-page Store words is = ap page_of is
asked-page Check words is = ap page_of is
