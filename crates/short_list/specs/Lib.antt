pub mod ShortList
