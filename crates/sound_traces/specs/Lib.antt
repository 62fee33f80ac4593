pub mod NoFault
