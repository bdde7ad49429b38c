mod Closeness
mod Geometry
mod Covering
mod Lengthy
mod Colliding
mod InOrder
mod Represented
