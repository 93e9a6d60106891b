pub mod ReadLemmas
pub mod PortListLemmas
pub mod RecordLemmas
pub mod FaultLemmas
pub mod LineFaults
pub mod OneMeaning
