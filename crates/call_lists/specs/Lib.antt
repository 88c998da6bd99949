pub mod MachineLists
pub mod WriterLists
