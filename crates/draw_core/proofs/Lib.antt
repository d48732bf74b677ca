pub mod PictureLemmas
