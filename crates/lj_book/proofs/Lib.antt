mod BookLemmas
mod BoxLemmas
mod CountLemmas
mod KeyStateLemmas
mod RefusedLemmas
