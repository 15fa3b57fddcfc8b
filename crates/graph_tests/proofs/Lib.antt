mod BlockLemmas
mod LinkLemmas
mod ChainLemmas
mod RunLemmas
