pub mod SamplingLemmas
