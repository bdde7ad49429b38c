-- Words of the code that settles the ticks in place: what each loop over the cells of a phase has done.
pub mod Steps
