-- The texts of the pages of help.
use Rattle.std.specs.Prelude.{ℕ, List}
use Rattle.gate_words.specs.declared.page.TheConstants.{PROGRAM_PAGE, SERVE_PAGE, ONCE_PAGE, SHOW_PAGE, STORE_PAGE, CHECK_PAGE, VERSION_PAGE}
use Rattle.gate_words.specs.declared.page.Page.{Page}
use Rattle.gate_words.specs.declared.page.Page.TheVariants.{Program, Serve, Once, Show, Store, Check, Version}

abbrev pub page_text : Page → List ℕ
page_text Program = PROGRAM_PAGE.now
page_text Serve = SERVE_PAGE.now
page_text Once = ONCE_PAGE.now
page_text Show = SHOW_PAGE.now
page_text Store = STORE_PAGE.now
page_text Check = CHECK_PAGE.now
page_text Version = VERSION_PAGE.now
