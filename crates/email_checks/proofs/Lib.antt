mod SetLemmas
mod MissingLemmas
mod RepeatLemmas
mod ValueLemmas
