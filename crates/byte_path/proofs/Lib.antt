pub mod PathFound
