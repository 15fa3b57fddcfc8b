mod ClassLemmas
mod FreeLemmas
mod StackLemmas
mod TrimLemmas
