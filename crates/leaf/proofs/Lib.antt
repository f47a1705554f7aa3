pub mod LeafRuns
