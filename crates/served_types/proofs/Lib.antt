mod StateLemmas
