mod RefusedEnds
mod MemoryEnds
mod SavedWork
