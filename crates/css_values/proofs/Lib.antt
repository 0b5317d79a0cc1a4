pub mod FontLemmas
