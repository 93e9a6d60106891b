pub mod PendingLemmas
