pub mod Laws
mod GenLemmas
mod KeepLemmas
