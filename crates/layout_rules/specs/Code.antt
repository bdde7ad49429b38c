-- Words of the search for the excitation lines alone, which follows chains of contacts.
pub mod LineChains
pub mod ChainRule
